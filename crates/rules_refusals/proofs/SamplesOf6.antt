-- Samples of number 6.
use Prim.Native.Nat.{ℕ}
use mathlib.Core.List.{List, [], ◌∷◌, ◌++◌}
use lib.ListN.{replicate}
use Rattle.state_keys.specs.Kinds.{rekey_of}
use Rattle.state_sa.specs.Entry.{with_condition, rekey_sa}
use Rattle.state_sa.specs.declared.entry.Condition.{Condition}
use Rattle.state_sa.specs.declared.entry.Condition.TheVariants.{Live}
use Rattle.state_sa.specs.declared.entry.Lifetime.TheVariants.{Unlimited}
use Rattle.state.specs.declared.State.{State}
use Rattle.state.specs.declared.least.Least.TheVariants.{Id}
use Rattle.wire_attributes.specs.Tree.{SaKey, WrapKey}
use Rattle.wire_frames.specs.Frame.{Frame, gsa, kd}
use Rattle.rules_refusals.proofs.SampleParts.{spi, live_spi, next_spi, esp_suite, policy, esp_policy}
use Rattle.rules_refusals.proofs.SampleParts.{rekey_policy, sa_key, wrap_key, bag, esp_bag}
use Rattle.rules_refusals.proofs.SampleParts.{rekey_bag, member_bag, registers, rekeys, deletion, esp_at, rekey_at, due_now, due_later}
use Rattle.rules_refusals.proofs.SampleParts.{member_of, fresh, Sample, sample, anew, later}

-- a member that has an ESP SA with SPI 1 in this condition, beside the live Rekey SA; one that has a Rekey SA in this condition beside
-- another that is live
abbrev having_esp : Condition → State
having_esp c = member_of (esp_at 1 c ∷ rekey_at Live ∷ []) (Id 0)

abbrev having_rekey : Condition → State
having_rekey c = member_of (rekey_at Live ∷ with_condition c (rekey_sa next_spi (rekey_of (replicate 44 0) 28 16) Unlimited) ∷ []) (Id 0)

-- an SPI that differs from that of ESP SA 1 in its first octet, and one that differs from next_spi in its last
abbrev far_spi : List ℕ
far_spi = 9 ∷ 2 ∷ 3 ∷ 1 ∷ []

abbrev near_spi : List ℕ
near_spi = replicate 15 8 ++ 9 ∷ []

-- a registration and a rekey that announce an ESP SA with SPI 1 and these keys
abbrev esp_new : List SaKey → Frame
esp_new l = registers (gsa (esp_policy 1 ∷ []) ∷ kd (bag 3 (spi 1) l ∷ []) ∷ [])

abbrev esp_later : List SaKey → Frame
esp_later l = rekeys (gsa (esp_policy 1 ∷ []) ∷ kd (bag 3 (spi 1) l ∷ []) ∷ [])

-- a registration with these WRAP_KEY
abbrev holding_new : List WrapKey → Frame
holding_new l = registers (gsa (esp_policy 1 ∷ []) ∷ kd (member_bag l ∷ esp_bag 1 ∷ []) ∷ [])

-- the same of a Rekey SA with SPI x and n copies
abbrev rekey_new : List ℕ → ℕ → Frame
rekey_new x n = registers (gsa (rekey_policy x ∷ []) ∷ kd (rekey_bag x n ∷ []) ∷ [])

abbrev rekey_later : List ℕ → ℕ → Frame
rekey_later x n = rekeys (gsa (rekey_policy x ∷ []) ∷ kd (rekey_bag x n ∷ []) ∷ [])

abbrev pub samples_of6 : List Sample
samples_of6 =
    -- a policy with no bag, a bag with no policy, another protocol, another SPI
    anew (registers (gsa (esp_policy 1 ∷ []) ∷ kd [] ∷ [])) 6 ∷
    anew (registers (gsa (esp_policy 1 ∷ esp_policy 2 ∷ []) ∷ kd (esp_bag 2 ∷ []) ∷ [])) 6 ∷
    anew (registers (gsa (esp_policy 1 ∷ []) ∷ kd (esp_bag 2 ∷ esp_bag 1 ∷ []) ∷ [])) 6 ∷
    anew (registers (gsa (esp_policy 1 ∷ []) ∷ kd (esp_bag 1 ∷ rekey_bag next_spi 1 ∷ []) ∷ [])) 6 ∷
    anew (registers (gsa (esp_policy 1 ∷ []) ∷ kd (bag 6 (spi 1) (sa_key 0 0 ∷ []) ∷ []) ∷ [])) 6 ∷
    anew (registers (gsa (esp_policy 1 ∷ []) ∷ kd (esp_bag 2 ∷ []) ∷ [])) 6 ∷
    anew (registers (gsa (esp_policy 1 ∷ []) ∷ kd (bag 3 far_spi (sa_key 0 0 ∷ []) ∷ []) ∷ [])) 6 ∷
    anew (registers (gsa (rekey_policy next_spi ∷ []) ∷ kd (rekey_bag near_spi 1 ∷ []) ∷ [])) 6 ∷
    anew (registers (gsa (esp_policy 1 ∷ esp_policy 2 ∷ []) ∷ kd (esp_bag 2 ∷ esp_bag 1 ∷ []) ∷ [])) 0 ∷
    anew
    (registers (gsa (esp_policy 1 ∷ policy 3 far_spi esp_suite ∷ []) ∷ kd (bag 3 far_spi (sa_key 0 0 ∷ []) ∷ esp_bag 1 ∷ []) ∷ [])) 0 ∷
    -- one protocol and SPI twice: in policies, in bags, in both
    anew (registers (gsa (esp_policy 1 ∷ esp_policy 1 ∷ []) ∷ kd (esp_bag 1 ∷ []) ∷ [])) 6 ∷
    anew (registers (gsa (esp_policy 1 ∷ []) ∷ kd (esp_bag 1 ∷ esp_bag 1 ∷ []) ∷ [])) 6 ∷
    anew (registers (gsa (esp_policy 1 ∷ esp_policy 1 ∷ []) ∷ kd (esp_bag 1 ∷ esp_bag 1 ∷ []) ∷ [])) 6 ∷
    -- already in the table, live or retiring, those due not counted; a D of the same frame frees nothing
    sample (having_esp Live) 0 (esp_later (sa_key 0 0 ∷ [])) 6 ∷
    sample (having_esp due_later) 0 (esp_later (sa_key 0 0 ∷ [])) 6 ∷
    sample (having_esp due_now) 0 (esp_later (sa_key 0 0 ∷ [])) 0 ∷
    sample (having_esp Live) 0 (rekeys (gsa (esp_policy 2 ∷ []) ∷ kd (esp_bag 2 ∷ []) ∷ [])) 0 ∷
    sample (having_esp Live) 0 (rekeys (gsa (policy 3 far_spi esp_suite ∷ []) ∷ kd (bag 3 far_spi (sa_key 0 0 ∷ []) ∷ []) ∷ [])) 0 ∷
    sample (having_esp Live) 0 (rekeys (gsa (esp_policy 2 ∷ esp_policy 1 ∷ []) ∷ kd (esp_bag 1 ∷ esp_bag 2 ∷ []) ∷ [])) 6 ∷
    sample (having_esp Live) 0 (rekeys (deletion ∷ gsa (esp_policy 1 ∷ []) ∷ kd (esp_bag 1 ∷ []) ∷ [])) 6 ∷
    sample (having_rekey due_later) 0 (rekey_later next_spi 1) 6 ∷
    sample (having_rekey due_now) 0 (rekey_later next_spi 1) 0 ∷
    sample (having_rekey due_later) 0 (rekey_later near_spi 1) 0 ∷
    later (rekey_later live_spi 1) 6 ∷
    later (rekey_later next_spi 1) 0 ∷
    -- SA_KEY count: 1, and for a Rekey SA in a rekey at least 1
    anew (esp_new []) 6 ∷
    anew (esp_new (sa_key 0 0 ∷ [])) 0 ∷
    anew (esp_new (sa_key 0 0 ∷ sa_key 0 0 ∷ [])) 6 ∷
    later (esp_later []) 6 ∷
    later (esp_later (sa_key 0 0 ∷ sa_key 0 0 ∷ [])) 6 ∷
    anew (rekey_new next_spi 0) 6 ∷
    anew (rekey_new next_spi 2) 6 ∷
    later (rekey_later next_spi 0) 6 ∷
    later (rekey_later next_spi 2) 0 ∷
    anew (registers (gsa (esp_policy 1 ∷ esp_policy 2 ∷ []) ∷ kd (esp_bag 1 ∷ bag 3 (spi 2) [] ∷ []) ∷ [])) 6 ∷
    anew (registers (gsa (esp_policy 1 ∷ esp_policy 2 ∷ []) ∷ kd (bag 3 (spi 2) [] ∷ esp_bag 1 ∷ []) ∷ [])) 6 ∷
    -- SA_KEY with Key ID not 0; KWK ID not 0, which a Rekey SA's may have
    anew (esp_new (sa_key 1 0 ∷ [])) 6 ∷
    anew (esp_new (sa_key 0 1 ∷ [])) 6 ∷
    later (esp_later (sa_key 0 1 ∷ [])) 6 ∷
    later (esp_later (sa_key 1 0 ∷ [])) 6 ∷
    later (esp_later (sa_key 1 1 ∷ [])) 6 ∷
    anew (registers (gsa (esp_policy 1 ∷ esp_policy 2 ∷ []) ∷ kd (esp_bag 1 ∷ bag 3 (spi 2) (sa_key 1 0 ∷ []) ∷ []) ∷ [])) 6 ∷
    anew (registers (gsa (esp_policy 1 ∷ esp_policy 2 ∷ []) ∷ kd (esp_bag 1 ∷ bag 3 (spi 2) (sa_key 0 1 ∷ []) ∷ []) ∷ [])) 6 ∷
    anew (registers (gsa (rekey_policy next_spi ∷ []) ∷ kd (bag 6 next_spi (sa_key 0 0 ∷ []) ∷ []) ∷ [])) 0 ∷
    anew (registers (gsa (rekey_policy next_spi ∷ []) ∷ kd (bag 6 next_spi (sa_key 1 0 ∷ []) ∷ []) ∷ [])) 6 ∷
    anew (registers (gsa (rekey_policy next_spi ∷ []) ∷ kd (bag 6 next_spi (sa_key 9 9 ∷ []) ∷ []) ∷ [])) 6 ∷
    later (rekeys (gsa (rekey_policy next_spi ∷ []) ∷ kd (bag 6 next_spi (sa_key 0 0 ∷ sa_key 0 9 ∷ []) ∷ []) ∷ [])) 0 ∷
    later (rekeys (gsa (rekey_policy next_spi ∷ []) ∷ kd (bag 6 next_spi (sa_key 1 0 ∷ sa_key 0 9 ∷ []) ∷ []) ∷ [])) 6 ∷
    later (rekeys (gsa (rekey_policy next_spi ∷ []) ∷ kd (bag 6 next_spi (sa_key 0 9 ∷ sa_key 1 9 ∷ []) ∷ []) ∷ [])) 6 ∷
    -- WRAP_KEY with Key ID 0
    anew (holding_new (wrap_key 5 0 ∷ wrap_key 0 5 ∷ [])) 6 ∷
    anew (holding_new (wrap_key 5 0 ∷ wrap_key 0 0 ∷ [])) 6 ∷
    anew (holding_new (wrap_key 0 5 ∷ wrap_key 5 0 ∷ [])) 6 ∷
    anew (holding_new (wrap_key 5 0 ∷ wrap_key 9 5 ∷ [])) 0 ∷
    -- a WRAP_KEY whose Key ID equals its KWK ID: alone, behind and before good ones, 0 under 0, the last Key ID; two that wrap each other
    -- are no fault
    anew (holding_new (wrap_key 5 5 ∷ [])) 6 ∷
    anew (holding_new (wrap_key 5 0 ∷ wrap_key 9 5 ∷ wrap_key 7 7 ∷ [])) 6 ∷
    anew (holding_new (wrap_key 5 5 ∷ wrap_key 9 0 ∷ [])) 6 ∷
    anew (holding_new (wrap_key 0 0 ∷ [])) 6 ∷
    anew (holding_new (wrap_key 4294967295 4294967295 ∷ [])) 6 ∷
    anew (holding_new (wrap_key 5 9 ∷ wrap_key 9 5 ∷ [])) 0 ∷
    -- an SA_KEY has Key ID 0 and KWK ID 0, beside WRAP_KEYs of other IDs
    anew (registers (gsa (rekey_policy next_spi ∷ []) ∷ kd (bag 6 next_spi (sa_key 0 0 ∷ []) ∷ member_bag (wrap_key 5 0 ∷ []) ∷ []) ∷ [])) 0 ∷
    -- 5 before 6
    sample fresh 28 (registers (gsa (esp_policy 1 ∷ []) ∷ kd [] ∷ [])) 5 ∷
    sample fresh 28 (holding_new (wrap_key 5 5 ∷ [])) 5 ∷
    -- 6 before 7
    anew (holding_new (wrap_key 5 5 ∷ replicate 32 (wrap_key 5 0))) 6 ∷
    []
