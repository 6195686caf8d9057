-- Samples of document 02, T-07: lifetimes in policies, and SAs whose lifetime has run.
use Prim.Native.Nat.{ℕ}
use mathlib.Core.List.{List, [], ◌∷◌, ◌++◌, map}
use lib.ListN.{replicate}
use Rattle.state_keys.specs.Kinds.{rekey_of}
use Rattle.state_sa.specs.Entry.{rekey_sa}
use Rattle.state_sa.specs.declared.entry.Condition.TheVariants.{Live}
use Rattle.state_sa.specs.declared.entry.Lifetime.{Lifetime}
use Rattle.state_sa.specs.declared.entry.Lifetime.TheVariants.{Unlimited, Limited}
use Rattle.state_sa.specs.declared.entry.Sa.{Sa}
use Rattle.state.specs.declared.State.{State}
use Rattle.state.specs.declared.least.Least.TheVariants.{Id}
use Rattle.state.proofs.ApartLimits.{apart}
use Rattle.wire_policies.specs.Policy.{Policy}
use Rattle.wire_frames.specs.Frame.{Content, gsa, kd}
use Rattle.rules_refusals.proofs.SampleParts.{spi, live_spi, next_spi, esp_suite, rekey_suite, group, sa_policy, lasting, esp_policy}
use Rattle.rules_refusals.proofs.SampleParts.{rekey_policy, esp_bag, rekey_bag, frame_of, registers}
use Rattle.rules_refusals.proofs.SampleParts.{rekeys, inband, fit, deleting}
use Rattle.rules_refusals.proofs.SampleParts.{up_to, one_more, esp_at, rekey_at, esp_for, rekey_for}
use Rattle.rules_refusals.proofs.SampleParts.{due_now, due_later, out_now, out_later, member_of}
use Rattle.rules_refusals.proofs.SampleParts.{member_within, Sample, sample, anew, later}

-- ---- policies with these lifetimes; what announces one of them
abbrev esp_policy_for : List ℕ → Policy
esp_policy_for l = lasting l (sa_policy 3 (spi 1) group esp_suite [])

abbrev pub esp_lasting : List ℕ → List Content
esp_lasting l = gsa (esp_policy_for l ∷ []) ∷ kd (esp_bag 1 ∷ []) ∷ []

abbrev pub rekey_lasting : List ℕ → List Content
rekey_lasting l = gsa (lasting l (sa_policy 6 next_spi group rekey_suite []) ∷ []) ∷ kd (rekey_bag next_spi 1 ∷ []) ∷ []

abbrev ah_lasting : List ℕ → List Content
ah_lasting l = gsa (lasting l (sa_policy 2 (spi 1) group esp_suite []) ∷ []) ∷ kd [] ∷ []

-- ---- members: SAs with Message ID 0; a live Rekey SA with this lifetime, alone; an ESP SA with it beside a live Rekey SA
abbrev of : List Sa → State
of l = member_of l (Id 0)

abbrev rekey_alone : Lifetime → State
rekey_alone t = of (rekey_for t ∷ [])

abbrev esp_beside : Lifetime → State
esp_beside t = of (esp_for 1 t ∷ rekey_at Live ∷ [])

-- a live ESP SA beside a Rekey SA with this lifetime; what announces a Rekey SA with the SPI of that one
abbrev esp_and : Lifetime → State
esp_and t = of (esp_at 9 Live ∷ rekey_for t ∷ [])

abbrev again : List Content
again = gsa (rekey_policy live_spi ∷ []) ∷ kd (rekey_bag live_spi 1 ∷ []) ∷ []

abbrev pub samples_of_lifetimes : List Sample
samples_of_lifetimes =
    -- "A rekey over a Rekey SA that is due at its tick, swept or not, gives 2": before 3 and 4 too. One that has not run is none the worse
    sample (rekey_alone out_now) 0 (deleting live_spi 9) 2 ∷
    sample (rekey_alone out_later) 0 (deleting live_spi 9) 0 ∷
    sample (rekey_alone (Limited 1000 0)) 0 (deleting live_spi 9) 2 ∷
    sample (rekey_alone (Limited 0 2000000)) 0 (deleting live_spi 9) 0 ∷
    sample (member_of (rekey_for out_now ∷ []) (Id 7)) 0 (frame_of live_spi 41 6 []) 2 ∷
    sample (of (esp_at 9 Live ∷ rekey_for out_now ∷ [])) 0 (deleting live_spi 9) 2 ∷
    sample (esp_beside out_now) 0 (deleting live_spi 9) 0 ∷
    -- a member whose SAs have all run out is empty
    sample (rekey_alone out_now) 16 (registers fit) 0 ∷
    sample (rekey_alone out_later) 16 (registers fit) 2 ∷
    sample (of (esp_for 8 out_now ∷ esp_at 9 due_now ∷ rekey_for out_now ∷ [])) 16 (registers fit) 0 ∷
    sample (of (esp_for 8 out_now ∷ esp_at 9 due_later ∷ rekey_for out_now ∷ [])) 16 (registers fit) 2 ∷
    -- over the member's own channel: taken unless every SA is due, with the SPI of a Rekey SA that ran out too
    sample (esp_and out_now) 16 (inband (esp_lasting (1 ∷ []))) 0 ∷
    sample (esp_and out_now) 16 (inband again) 0 ∷
    sample (esp_and out_later) 16 (inband again) 6 ∷
    sample (rekey_alone out_now) 16 (inband again) 2 ∷
    -- a member value with a lifetime of more than 2,000,000 seconds breaks its list, due or not; two live Rekey SAs, one of them due, too
    sample (esp_beside (Limited 0 2000001)) 0 (deleting live_spi 9) 2 ∷
    sample (esp_beside (Limited 0 2000000)) 0 (deleting live_spi 9) 0 ∷
    sample (rekey_alone (Limited 2294967296 2000001)) 16 (registers fit) 2 ∷
    sample (of (rekey_for out_now ∷ rekey_sa next_spi (rekey_of (replicate 44 0) 28 16) Unlimited ∷ [])) 0 (deleting next_spi 9) 2 ∷
    -- "twice in one policy 4": equal ones too, whatever the protocol; once in each of two policies is not
    anew (registers (esp_lasting (3600 ∷ []))) 0 ∷
    anew (registers (esp_lasting (3600 ∷ 3600 ∷ []))) 4 ∷
    anew (registers (rekey_lasting (1 ∷ 2 ∷ []))) 4 ∷
    anew (registers (ah_lasting (1 ∷ 1 ∷ []))) 4 ∷
    anew (registers (gsa (esp_policy 2 ∷ esp_policy_for (1 ∷ 2 ∷ 3 ∷ []) ∷ []) ∷ kd (esp_bag 1 ∷ esp_bag 2 ∷ []) ∷ [])) 4 ∷
    anew (registers (gsa (esp_policy_for (1 ∷ []) ∷ lasting (1 ∷ []) (sa_policy 6 next_spi group rekey_suite []) ∷ [])
    ∷ kd (esp_bag 1 ∷ rekey_bag next_spi 1 ∷ []) ∷ [])) 0 ∷
    later (rekeys (esp_lasting (1 ∷ 1 ∷ []))) 4 ∷
    -- "already in the table": those whose lifetime has run not counted
    sample (esp_beside out_now) 0 (rekeys (esp_lasting [])) 0 ∷
    sample (esp_beside out_later) 0 (rekeys (esp_lasting [])) 6 ∷
    -- "More seconds are number 7", in an ESP and in a Rekey policy, in the last one too; in an AH policy 5 comes before
    anew (registers (esp_lasting (2000000 ∷ []))) 0 ∷
    anew (registers (esp_lasting (2000001 ∷ []))) 7 ∷
    anew (registers (esp_lasting (4294967295 ∷ []))) 7 ∷
    anew (registers (esp_lasting (0 ∷ []))) 0 ∷
    later (rekeys (rekey_lasting (2000000 ∷ []))) 0 ∷
    later (rekeys (rekey_lasting (2000001 ∷ []))) 7 ∷
    anew (registers (gsa (esp_policy 2 ∷ esp_policy_for (2000001 ∷ []) ∷ []) ∷ kd (esp_bag 1 ∷ esp_bag 2 ∷ []) ∷ [])) 7 ∷
    anew (registers (ah_lasting (2000001 ∷ []))) 5 ∷
    []

-- "over 16 SAs after the frame, those already due when it arrives not counted" (T-01: 64): here 7 of 7 places, one of them taken by an SA
-- whose lifetime has run
abbrev full : Lifetime → State
full t = member_within apart (esp_for 0 t ∷ (map (λ (k : ℕ). esp_at k Live) (up_to 5) ++ rekey_at Live ∷ [])) [] (Id 0)

abbrev pub samples_of_room : List Sample
samples_of_room = sample (full out_now) 0 one_more 0 ∷ sample (full out_later) 0 one_more 7 ∷ []
