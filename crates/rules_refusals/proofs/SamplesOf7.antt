-- Samples of number 7.
use mathlib.Core.List.{List, [], ◌∷◌, map}
use lib.ListN.{replicate}
use Rattle.state_sa.specs.declared.entry.Condition.TheVariants.{Live}
use Rattle.wire_frames.specs.Frame.{Frame, gsa, kd}
use Rattle.rules_refusals.proofs.SampleParts.{spi, next_spi, esp_policy, rekey_policy, esp_bag}
use Rattle.rules_refusals.proofs.SampleParts.{rekey_bag, deletes, registers, rekeys, up_to}
use Rattle.rules_refusals.proofs.SampleParts.{esp_sas, wrap_keys, copies, deleted, one_more, due_now}
use Rattle.rules_refusals.proofs.SampleParts.{due_later, having, Sample, sample, anew}
use Rattle.rules_refusals.proofs.SampleParts.{later}

-- a rekey that announces two ESP SAs more, one that announces a Rekey SA, and one that announces both kinds
abbrev two_more : Frame
two_more = rekeys (gsa (esp_policy 200 ∷ esp_policy 201 ∷ []) ∷ kd (esp_bag 200 ∷ esp_bag 201 ∷ []) ∷ [])

abbrev rekey_more : Frame
rekey_more = copies 1

abbrev both_more : Frame
both_more = rekeys (gsa (esp_policy 200 ∷ rekey_policy next_spi ∷ []) ∷ kd (rekey_bag next_spi 1 ∷ esp_bag 200 ∷ []) ∷ [])

abbrev pub samples_of7 : List Sample
samples_of7 =
    -- over 24 ESP policies; the Rekey policy is none of them
    anew (registers (esp_sas 24)) 0 ∷
    anew (registers (esp_sas 25)) 7 ∷
    later (rekeys (esp_sas 24)) 0 ∷
    later (rekeys (esp_sas 25)) 7 ∷
    anew (registers (gsa (rekey_policy next_spi ∷ map esp_policy (up_to 24)) ∷ kd (rekey_bag next_spi 1 ∷ map esp_bag (up_to 24)) ∷ [])) 0 ∷
    -- over 128 WRAP_KEY, equal ones too; over 32 SA_KEY in a bag
    anew (wrap_keys 128) 0 ∷
    anew (wrap_keys 129) 7 ∷
    later (copies 32) 0 ∷
    later (copies 33) 7 ∷
    later (rekeys (gsa (rekey_policy next_spi ∷ esp_policy 1 ∷ []) ∷ kd (rekey_bag next_spi 32 ∷ esp_bag 1 ∷ []) ∷ [])) 0 ∷
    later (rekeys (gsa (rekey_policy next_spi ∷ esp_policy 1 ∷ []) ∷ kd (esp_bag 1 ∷ rekey_bag next_spi 33 ∷ []) ∷ [])) 7 ∷
    -- over 32 deleted SPIs in the frame, over all its D, equal ones too
    later (deleted 32) 0 ∷
    later (deleted 33) 7 ∷
    later (rekeys (deletes 3 (replicate 16 (spi 4)) ∷ deletes 3 (replicate 16 (spi 5)) ∷ [])) 0 ∷
    later (rekeys (deletes 3 (replicate 17 (spi 4)) ∷ deletes 3 (replicate 16 (spi 5)) ∷ [])) 7 ∷
    -- over 64 SAs after the frame: 64 in the table, of which one is due or none; 63; those that the frame retires count
    sample (having 62 due_now) 0 one_more 0 ∷
    sample (having 62 due_later) 0 one_more 7 ∷
    sample (having 62 Live) 0 one_more 7 ∷
    sample (having 62 due_now) 0 two_more 7 ∷
    sample (having 61 Live) 0 one_more 0 ∷
    sample (having 61 Live) 0 two_more 7 ∷
    -- the same with a new Rekey SA, beside the one that it turns to retiring
    sample (having 61 Live) 0 rekey_more 0 ∷
    sample (having 61 Live) 0 both_more 7 ∷
    sample (having 62 Live) 0 rekey_more 7 ∷
    sample (having 62 Live) 0 (rekeys (deletes 3 (spi 1 ∷ []) ∷ gsa (esp_policy 200 ∷ []) ∷ kd (esp_bag 200 ∷ []) ∷ [])) 7 ∷
    -- 6 before 7
    later (rekeys (deletes 3 (replicate 33 (spi 4)) ∷ gsa (esp_policy 1 ∷ []) ∷ kd (esp_bag 2 ∷ []) ∷ [])) 6 ∷
    []
