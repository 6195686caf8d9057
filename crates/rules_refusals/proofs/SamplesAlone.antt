-- Each clause of numbers 2 and 4 to 7 that can be met alone, met alone: in a registration, in a rekey and in an in-band rekey, where that
-- exchange can meet it.
-- Three clauses cannot: an AH policy also has other transforms than those that are fit, and where one protocol and SPI stands twice, in
-- policies or in bags, policies and bags are not paired one to one either. Number 3 has one clause.
use Prim.Native.Nat.{ℕ, ◌-◌}
use mathlib.Core.List.{List, [], ◌∷◌, ◌++◌, map}
use mathlib.Core.Bool.{true}
use Rattle.state_keys.specs.Limits.{limits}
use Rattle.state_sa.specs.declared.entry.Condition.TheVariants.{Live}
use Rattle.wire_policies.specs.Policy.{group_sa}
use Rattle.wire_frames.specs.Frame.{Payload, Content, gsa, kd, unread}
use Rattle.rules_refusals.proofs.SampleParts.{spi, live_spi, next_spi, third_spi, transform, selector, ip4, group, sa_policy, policy}
use Rattle.rules_refusals.proofs.SampleParts.{rekey_suite, esp_policy, rekey_policy, wide, sa_key}
use Rattle.rules_refusals.proofs.SampleParts.{wrap_key, bag, esp_bag, rekey_bag, fresh_bag, member_bag, fresh_keys}
use Rattle.rules_refusals.proofs.SampleParts.{deletes, payload, frame_of, registers, rekeys, inband, another}
use Rattle.rules_refusals.proofs.SampleParts.{own, fit, deletion, rekey_at, due_later, esp_sas, wrap_keys}
use Rattle.rules_refusals.proofs.SampleParts.{copies, deleted, having, one_more, fresh, held_key, holding, Sample, sample, anew, later}
use Rattle.rules_refusals.proofs.SamplesOfLifetimes.{esp_lasting, rekey_lasting}

-- a sample and the place of the one clause that it meets, in the list of its number
pub record Alone : Type 0 where
  pub clause : ℕ
  pub of : Sample

abbrev alone : ℕ → Sample → Alone
alone c s = record { clause = c; of = s }

-- what payloads hold, given a number for one clause
pub record Case : Type 0 where
  pub clause : ℕ
  pub contents : List Content

abbrev case : ℕ → List Content → Case
case c l = record { clause = c; contents = l }

-- in a registration, in a rekey and in an in-band rekey
abbrev in_each : ℕ → List Case → List Alone
in_each n l =
    map (λ (c : Case). alone c.clause (anew (registers c.contents) n)) l
    ++ map (λ (c : Case). alone c.clause (later (rekeys c.contents) n)) l
    ++ map (λ (c : Case). alone c.clause (own (inband c.contents) n)) l

-- ---- number 2
abbrev pub alone2 : List Alone
alone2 =
    -- another exchange
    alone 0 (anew (frame_of [] 43 0 (map payload fit)) 2) ∷
    alone 0 (later (frame_of live_spi 43 0 (payload deletion ∷ [])) 2) ∷
    -- a registration of a member that is not empty
    alone 1 (sample (having 0 Live) 16 (registers fit) 2) ∷
    alone 1 (sample (having 0 Live) 16 (frame_of [] 40 0 (map payload fit)) 2) ∷
    -- an in-band rekey of an empty member
    alone 1 (anew (inband another) 2) ∷
    -- a rekey over other SPIs
    alone 2 (later (frame_of next_spi 41 0 (payload deletion ∷ [])) 2) ∷
    -- a member value that breaks its list
    alone 3 (sample (holding [] (held_key 0 16 ∷ [])) 16 (registers fit) 2) ∷
    alone 3 (sample (holding [] (held_key 0 16 ∷ [])) 16 (frame_of [] 40 0 (map payload fit)) 2) ∷
    alone 3 (sample (holding (rekey_at Live ∷ []) (held_key 0 16 ∷ [])) 0 (rekeys (deletion ∷ [])) 2) ∷
    alone 3 (sample (holding (rekey_at Live ∷ []) (held_key 0 16 ∷ [])) 16 (inband another) 2) ∷
    []

-- ---- number 4
abbrev unknown : Payload
unknown = record { kind = 40; critical = true; content = unread }

abbrev pub alone4 : List Alone
alone4 = in_each 4 (
    -- two GSA, two KD
    case 3 (gsa (esp_policy 1 ∷ []) ∷ gsa (esp_policy 2 ∷ []) ∷ kd (esp_bag 1 ∷ esp_bag 2 ∷ []) ∷ []) ∷
    case 4 (gsa (esp_policy 1 ∷ esp_policy 2 ∷ []) ∷ kd (esp_bag 1 ∷ []) ∷ kd (esp_bag 2 ∷ []) ∷ []) ∷
    -- one without the other, neither
    case 5 (gsa (esp_policy 1 ∷ []) ∷ []) ∷
    case 6 (kd (esp_bag 1 ∷ []) ∷ []) ∷
    case 7 (unread ∷ []) ∷
    -- several Rekey policies, several group-wide policies
    case 8 (gsa (rekey_policy next_spi ∷ rekey_policy third_spi ∷ []) ∷ kd (rekey_bag next_spi 1 ∷ rekey_bag third_spi 1 ∷ []) ∷ []) ∷
    case 9 (gsa (wide [] ∷ esp_policy 1 ∷ wide [] ∷ []) ∷ kd (esp_bag 1 ∷ []) ∷ []) ∷
    -- a GSA with no SA policy
    case 11 (gsa (wide [] ∷ []) ∷ kd [] ∷ []) ∷
    -- twice in one place: Key Length, in an ESP and in a Rekey policy, GSA_INITIAL_MESSAGE_ID, the deactivation delay
    case 12 (gsa (policy 3 (spi 1) (transform 5 0 [] ∷ transform 1 20 (128 ∷ 256 ∷ []) ∷ []) ∷ []) ∷ kd (esp_bag 1 ∷ []) ∷ []) ∷
    case 12
    (gsa (policy 6 next_spi (transform 13 2 [] ∷ transform 1 20 (128 ∷ 128 ∷ []) ∷ transform 14 1 [] ∷ []) ∷ []) ∷
    kd (rekey_bag next_spi 1 ∷ []) ∷ []) ∷
    case 13 (gsa (group_sa (sa_policy 6 next_spi group rekey_suite (7 ∷ 8 ∷ [])) ∷ []) ∷ kd (rekey_bag next_spi 1 ∷ []) ∷ []) ∷
    case 14 (gsa (esp_policy 1 ∷ wide (3 ∷ 4 ∷ []) ∷ []) ∷ kd (esp_bag 1 ∷ []) ∷ []) ∷
    -- another Rekey destination
    case 15
    (gsa (group_sa (sa_policy 6 next_spi (selector 7 848 849 (ip4 239) (ip4 239)) rekey_suite []) ∷ []) ∷ kd (rekey_bag next_spi 1 ∷ []) ∷
    []) ∷
    -- GSA_KEY_LIFETIME twice, in an ESP and in a Rekey policy
    case 16 (esp_lasting (1 ∷ 2 ∷ [])) ∷
    case 16 (rekey_lasting (1 ∷ 1 ∷ [])) ∷
    [])
    -- a critical unknown payload
    ++ alone 0 (anew (frame_of [] 39 0 (unknown ∷ map payload fit)) 4) ∷
    alone 0 (later (frame_of live_spi 41 0 (payload deletion ∷ unknown ∷ [])) 4) ∷
    alone 0 (own (frame_of [] 42 0 (unknown ∷ map payload another)) 4) ∷
    -- a Member bag in a rekey, D in a registration, each in an in-band rekey; several Member bags
    alone 1 (later (rekeys (gsa (esp_policy 1 ∷ []) ∷ kd (esp_bag 1 ∷ member_bag (wrap_key 5 0 ∷ []) ∷ []) ∷ [])) 4) ∷
    alone 1 (own (inband (gsa (esp_policy 1 ∷ []) ∷ kd (esp_bag 1 ∷ member_bag (wrap_key 5 0 ∷ []) ∷ []) ∷ [])) 4) ∷
    alone 2 (anew (registers (deletion ∷ fit)) 4) ∷
    alone 2 (own (inband (deletion ∷ another)) 4) ∷
    alone 10 (anew (registers (gsa (esp_policy 1 ∷ []) ∷ kd (member_bag [] ∷ esp_bag 1 ∷ member_bag (wrap_key 5 0 ∷ []) ∷ []) ∷ [])) 4) ∷
    []

-- ---- number 5
abbrev pub alone5 : List Alone
alone5 = in_each 5 (
    -- an AH bag
    case 1 (gsa (esp_policy 1 ∷ []) ∷ kd (esp_bag 1 ∷ bag 2 (spi 2) (sa_key 0 0 ∷ []) ∷ []) ∷ []) ∷
    -- other transforms, in an ESP and in a Rekey policy
    case 2 (gsa (policy 3 (spi 1) (transform 5 1 [] ∷ transform 1 20 (128 ∷ []) ∷ []) ∷ []) ∷ kd (esp_bag 1 ∷ []) ∷ []) ∷
    case 2 (gsa (policy 6 next_spi (transform 13 2 [] ∷ transform 1 20 (128 ∷ []) ∷ []) ∷ []) ∷ kd (rekey_bag next_spi 1 ∷ []) ∷ []) ∷
    [])
    -- Delete of another protocol, of none; a lent key of another size
    ++ alone 3 (later (rekeys (deletes 2 (spi 4 ∷ []) ∷ [])) 5) ∷
    alone 4 (later (rekeys (deletes 3 [] ∷ [])) 5) ∷
    alone 5 (sample fresh 28 (registers fit) 5) ∷
    alone 5 (sample fresh 28 (frame_of [] 40 0 (map payload fit)) 5) ∷
    alone 5 (sample (having 0 Live) 28 (inband another) 5) ∷
    []

-- ---- number 6
abbrev pub alone6 : List Alone
alone6 = in_each 6 (
    -- a policy with no bag, a bag with no policy
    case 0 (gsa (esp_policy 1 ∷ esp_policy 2 ∷ []) ∷ kd (esp_bag 2 ∷ []) ∷ []) ∷
    case 1 (gsa (esp_policy 1 ∷ []) ∷ kd (esp_bag 1 ∷ esp_bag 2 ∷ []) ∷ []) ∷
    -- SA_KEY count, Key ID, KWK ID
    case 4 (gsa (esp_policy 1 ∷ []) ∷ kd (bag 3 (spi 1) (sa_key 0 0 ∷ sa_key 0 0 ∷ []) ∷ []) ∷ []) ∷
    case 4 (gsa (rekey_policy next_spi ∷ []) ∷ kd (rekey_bag next_spi 0 ∷ []) ∷ []) ∷
    case 5 (gsa (esp_policy 1 ∷ []) ∷ kd (bag 3 (spi 1) (sa_key 1 0 ∷ []) ∷ []) ∷ []) ∷
    case 5 (gsa (rekey_policy next_spi ∷ []) ∷ kd (bag 6 next_spi (sa_key 1 9 ∷ []) ∷ []) ∷ []) ∷
    case 6 (gsa (esp_policy 1 ∷ []) ∷ kd (bag 3 (spi 1) (sa_key 0 1 ∷ []) ∷ []) ∷ []) ∷
    [])
    -- two copies of a Rekey SA's key in an in-band rekey
    ++ alone 4 (own (inband (gsa (rekey_policy next_spi ∷ []) ∷ kd (rekey_bag next_spi 2 ∷ []) ∷ [])) 6) ∷
    -- WRAP_KEY with Key ID 0, WRAP_KEY whose Key ID equals its KWK ID; the same of fresh tree keys; a name that is already in the table
    alone 7 (anew (registers (gsa (esp_policy 1 ∷ []) ∷ kd (member_bag (wrap_key 0 5 ∷ []) ∷ esp_bag 1 ∷ []) ∷ [])) 6) ∷
    alone 8 (anew (registers (gsa (esp_policy 1 ∷ []) ∷ kd (member_bag (wrap_key 5 5 ∷ []) ∷ esp_bag 1 ∷ []) ∷ [])) 6) ∷
    alone 9 (later (rekeys (gsa (rekey_policy next_spi ∷ []) ∷ kd (fresh_bag next_spi (wrap_key 0 5 ∷ []) ∷ []) ∷ [])) 6) ∷
    alone 10 (later (rekeys (gsa (rekey_policy next_spi ∷ []) ∷ kd (fresh_bag next_spi (wrap_key 5 5 ∷ []) ∷ []) ∷ [])) 6) ∷
    alone 11 (sample (having 1 due_later) 0 (rekeys (gsa (esp_policy 1 ∷ []) ∷ kd (esp_bag 1 ∷ []) ∷ [])) 6) ∷
    alone 11 (sample (having 1 due_later) 16 (inband (gsa (esp_policy 1 ∷ []) ∷ kd (esp_bag 1 ∷ []) ∷ [])) 6) ∷
    []

-- ---- number 7. A registration announces at most 24 ESP SAs and a Rekey SA, so 64 SAs are passed in rekeys alone
abbrev pub alone7 : List Alone
alone7 = in_each 7 (
    -- ESP policies
    case 0 (esp_sas 25) ∷
    -- a lifetime
    case 4 (esp_lasting (2000001 ∷ [])) ∷
    case 4 (rekey_lasting (2000001 ∷ [])) ∷
    [])
    -- WRAP_KEY, SA_KEY in a bag, deleted SPIs, fresh tree keys, SAs
    ++ alone 1 (anew (wrap_keys 129) 7) ∷
    alone 2 (later (copies 33) 7) ∷
    alone 3 (later (deleted 33) 7) ∷
    alone 5 (later (fresh_keys 129) 7) ∷
    alone 6 (sample (having 62 Live) 0 one_more 7) ∷
    alone 6 (sample (having (limits.sas - 2) Live) 16 (inband another) 7) ∷
    []
