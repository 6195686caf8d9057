-- Samples of fresh tree keys in a rekey (document 02, T-11), whose entries stand in the Rekey SA's Group Key Bag.
use mathlib.Core.List.{List, [], ◌∷◌, ◌++◌}
use lib.ListN.{replicate}
use Rattle.wire_frames.specs.Frame.{Frame, gsa, kd}
use Rattle.wire_attributes.specs.Tree.{WrapKey}
use Rattle.rules_refusals.proofs.SampleParts.{next_spi, esp_policy, rekey_policy, wrap_key, esp_bag, fresh_bag, rekeys, Sample, later}
use Rattle.rules_refusals.proofs.SampleParts.{fresh_keys}

-- a rekey with these fresh keys
abbrev freshly : List WrapKey → Frame
freshly l = rekeys (gsa (rekey_policy next_spi ∷ []) ∷ kd (fresh_bag next_spi l ∷ []) ∷ [])

abbrev pub samples_of_fresh : List Sample
samples_of_fresh =
    later (freshly []) 0 ∷
    later (freshly (wrap_key 5 0 ∷ wrap_key 9 5 ∷ [])) 0 ∷
    -- "Key ID 0 .. [gives] 6", under any KWK ID, wherever it stands
    later (freshly (wrap_key 5 0 ∷ wrap_key 0 5 ∷ [])) 6 ∷
    later (freshly (wrap_key 0 5 ∷ wrap_key 5 0 ∷ [])) 6 ∷
    later (freshly (wrap_key 0 0 ∷ [])) 6 ∷
    later (rekeys (gsa (esp_policy 1 ∷ rekey_policy next_spi ∷ []) ∷ kd (esp_bag 1 ∷ fresh_bag next_spi (wrap_key 0 5 ∷ []) ∷ []) ∷ [])) 6 ∷
    -- "a self-wrapping [gives] 6", reached or not; two that wrap each other are no fault
    later (freshly (wrap_key 5 5 ∷ [])) 6 ∷
    later (freshly (wrap_key 5 0 ∷ wrap_key 9 5 ∷ wrap_key 7 7 ∷ [])) 6 ∷
    later (freshly (wrap_key 4294967295 4294967295 ∷ wrap_key 5 0 ∷ [])) 6 ∷
    later (freshly (wrap_key 5 9 ∷ wrap_key 9 5 ∷ [])) 0 ∷
    -- "over 128 gives 7", equal ones too
    later (fresh_keys 128) 0 ∷
    later (fresh_keys 129) 7 ∷
    -- 6 before 7
    later (freshly (replicate 128 (wrap_key 5 0) ++ wrap_key 5 5 ∷ [])) 6 ∷
    []
