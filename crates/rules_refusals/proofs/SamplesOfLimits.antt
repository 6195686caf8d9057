-- Samples under a record of seven figures that differ. Three of the limits are 128 and two are 32, so samples under the code's figures
-- cannot tell these apart. The words are document 01's. Then samples under document 01's own figures, which T-01 calls the old limits.
use Prim.Native.Nat.{ℕ}
use mathlib.Core.List.{List, [], ◌∷◌, map}
use Rattle.state_keys.specs.Limits.{limits_before_t01}
use Rattle.state_sa.specs.declared.entry.Condition.TheVariants.{Live}
use Rattle.state_sa.specs.declared.entry.Sa.{Sa}
use Rattle.state.specs.declared.State.{State}
use Rattle.state.specs.declared.held.HeldKey.{HeldKey}
use Rattle.state.specs.declared.least.Least.TheVariants.{Id}
use Rattle.state.proofs.ApartLimits.{apart}
use Rattle.rules_refusals.proofs.SampleParts.{registers, rekeys, fit, deletion, up_to, esp_sas}
use Rattle.rules_refusals.proofs.SampleParts.{wrap_keys, copies, fresh_keys, deleted, one_more, sas_with}
use Rattle.rules_refusals.proofs.SampleParts.{due_now, held_key, member_within, Sample, sample}

abbrev with : List Sa → List HeldKey → State
with l h = member_within apart l h (Id 0)

abbrev pub samples_of_limits : List Sample
samples_of_limits =
    -- "at most 32 wrapping keys" in the held list: 2
    sample (with [] (held_key 1 16 ∷ held_key 2 16 ∷ [])) 16 (registers fit) 0 ∷
    sample (with [] (held_key 1 16 ∷ held_key 2 16 ∷ held_key 3 16 ∷ [])) 16 (registers fit) 2 ∷
    -- "over 8 ESP policies": 3
    sample (with [] []) 16 (registers (esp_sas 3)) 0 ∷
    sample (with [] []) 16 (registers (esp_sas 4)) 7 ∷
    -- "32 WRAP_KEY": 4
    sample (with [] []) 16 (wrap_keys 4) 0 ∷
    sample (with [] []) 16 (wrap_keys 5) 7 ∷
    -- "32 SA_KEY in a bag": 5
    sample (with (sas_with 1 Live) []) 0 (copies 5) 0 ∷
    sample (with (sas_with 1 Live) []) 0 (copies 6) 7 ∷
    -- "32 deleted SPIs in the frame": 6
    sample (with (sas_with 1 Live) []) 0 (deleted 6) 0 ∷
    sample (with (sas_with 1 Live) []) 0 (deleted 7) 7 ∷
    -- "over 128 gives 7": 8
    sample (with (sas_with 1 Live) []) 0 (fresh_keys 8) 0 ∷
    sample (with (sas_with 1 Live) []) 0 (fresh_keys 9) 7 ∷
    -- "over 16 SAs after the frame": 7
    sample (with (sas_with 4 Live) []) 0 one_more 0 ∷
    sample (with (sas_with 5 Live) []) 0 one_more 7 ∷
    -- "a table of at most 16 SAs": 7
    sample (with (sas_with 5 Live) []) 0 (rekeys (deletion ∷ [])) 0 ∷
    sample (with (sas_with 6 Live) []) 0 (rekeys (deletion ∷ [])) 2 ∷
    []

-- a member in the places of document 01
abbrev old : List Sa → List HeldKey → State
old l h = member_within limits_before_t01 l h (Id 0)

abbrev keys_to : ℕ → List HeldKey
keys_to n = map (λ (i : ℕ). held_key i 16) (up_to n)

abbrev pub samples_before_t01 : List Sample
samples_before_t01 =
    -- "at most 32 wrapping keys" in the held list, "a table of at most 16 SAs"
    sample (old [] (keys_to 32)) 16 (registers fit) 0 ∷
    sample (old [] (keys_to 33)) 16 (registers fit) 2 ∷
    sample (old (sas_with 14 Live) []) 0 (rekeys (deletion ∷ [])) 0 ∷
    sample (old (sas_with 15 Live) []) 0 (rekeys (deletion ∷ [])) 2 ∷
    -- "over 8 ESP policies, 32 WRAP_KEY, 32 SA_KEY in a bag, 32 deleted SPIs in the frame"
    sample (old [] []) 16 (registers (esp_sas 8)) 0 ∷
    sample (old [] []) 16 (registers (esp_sas 9)) 7 ∷
    sample (old [] []) 16 (wrap_keys 32) 0 ∷
    sample (old [] []) 16 (wrap_keys 33) 7 ∷
    sample (old (sas_with 1 Live) []) 0 (copies 32) 0 ∷
    sample (old (sas_with 1 Live) []) 0 (copies 33) 7 ∷
    sample (old (sas_with 1 Live) []) 0 (deleted 32) 0 ∷
    sample (old (sas_with 1 Live) []) 0 (deleted 33) 7 ∷
    -- "16 SAs, one due: one more fits"
    sample (old (sas_with 14 due_now) []) 0 one_more 0 ∷
    sample (old (sas_with 14 Live) []) 0 one_more 7 ∷
    []
