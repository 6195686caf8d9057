-- Samples of number 5.
use Prim.Native.Nat.{ℕ}
use mathlib.Core.List.{List, [], ◌∷◌, map}
use Rattle.state.specs.declared.least.Least.TheVariants.{Id}
use Rattle.wire_policies.specs.Transform.{Transform}
use Rattle.wire_frames.specs.Frame.{Frame, gsa, kd}
use Rattle.rules_refusals.proofs.SampleParts.{spi, live_spi, next_spi, transform, esp_suite, rekey_suite}
use Rattle.rules_refusals.proofs.SampleParts.{policy, esp_policy, sa_key, bag, esp_bag}
use Rattle.rules_refusals.proofs.SampleParts.{rekey_bag, deletes, payload, frame_of, registers, rekeys}
use Rattle.rules_refusals.proofs.SampleParts.{fit, deletion, fresh, member, Sample}
use Rattle.rules_refusals.proofs.SampleParts.{sample, anew, later}

-- a registration with an ESP policy of these transforms; a registration and a rekey with a Rekey policy of these
abbrev esp : List Transform → Frame
esp l = registers (gsa (policy 3 (spi 1) l ∷ []) ∷ kd (esp_bag 1 ∷ []) ∷ [])

abbrev rekey_new : List Transform → Frame
rekey_new l = registers (gsa (policy 6 next_spi l ∷ []) ∷ kd (rekey_bag next_spi 1 ∷ []) ∷ [])

abbrev rekey_later : List Transform → Frame
rekey_later l = rekeys (gsa (policy 6 next_spi l ∷ []) ∷ kd (rekey_bag next_spi 1 ∷ []) ∷ [])

-- ENCR_AES_GCM_16 with a Key Length; a key wrap algorithm, a controller authentication method and Sequence Numbers by ID
abbrev gcm : ℕ → Transform
gcm b = transform 1 20 (b ∷ [])

abbrev kw : ℕ → Transform
kw i = transform 13 i []

abbrev method : ℕ → Transform
method i = transform 14 i []

abbrev numbers : ℕ → Transform
numbers i = transform 5 i []

abbrev pub samples_of5 : List Sample
samples_of5 =
    -- a lent key of 16, 24 or 32 octets in a registration; a rekey does not read it
    sample fresh 0 (registers fit) 5 ∷
    sample fresh 16 (registers fit) 0 ∷
    sample fresh 20 (registers fit) 5 ∷
    sample fresh 24 (registers fit) 0 ∷
    sample fresh 28 (registers fit) 5 ∷
    sample fresh 32 (registers fit) 0 ∷
    sample fresh 8 (registers fit) 5 ∷
    sample fresh 36 (registers fit) 5 ∷
    sample fresh 64 (registers fit) 5 ∷
    sample fresh 28 (frame_of [] 40 0 (map payload fit)) 5 ∷
    sample fresh 32 (frame_of [] 40 0 (map payload fit)) 0 ∷
    later (rekeys (deletion ∷ [])) 0 ∷
    sample (member (Id 0)) 28 (rekeys (deletion ∷ [])) 0 ∷
    -- 4 before 5
    sample fresh 28 (registers []) 4 ∷
    -- an AH policy, which is an SA policy, so not 4; an AH bag, before 6
    anew (registers (gsa (policy 2 (spi 1) esp_suite ∷ []) ∷ kd (bag 2 (spi 1) (sa_key 0 0 ∷ []) ∷ []) ∷ [])) 5 ∷
    anew (registers (gsa (esp_policy 1 ∷ []) ∷ kd (esp_bag 1 ∷ bag 2 (spi 2) (sa_key 0 0 ∷ []) ∷ []) ∷ [])) 5 ∷
    anew (registers (gsa (esp_policy 1 ∷ []) ∷ kd (bag 2 (spi 2) (sa_key 0 0 ∷ []) ∷ esp_bag 1 ∷ []) ∷ [])) 5 ∷
    anew (registers (gsa (policy 2 (spi 1) rekey_suite ∷ []) ∷ kd (bag 2 (spi 1) (sa_key 0 0 ∷ []) ∷ []) ∷ [])) 5 ∷
    -- ESP: exactly one of type 1 that is a row of the algorithm table, in any order
    anew (esp (numbers 0 ∷ gcm 128 ∷ [])) 0 ∷
    anew (esp (gcm 128 ∷ numbers 0 ∷ [])) 0 ∷
    anew (esp (numbers 0 ∷ gcm 192 ∷ [])) 0 ∷
    anew (esp (numbers 0 ∷ gcm 256 ∷ [])) 0 ∷
    anew (esp (numbers 0 ∷ gcm 64 ∷ [])) 5 ∷
    anew (esp (numbers 0 ∷ gcm 0 ∷ [])) 5 ∷
    anew (esp (numbers 0 ∷ gcm 129 ∷ [])) 5 ∷
    anew (esp (numbers 0 ∷ gcm 512 ∷ [])) 5 ∷
    anew (esp (numbers 0 ∷ transform 1 20 [] ∷ [])) 5 ∷
    anew (esp (numbers 0 ∷ transform 1 19 (128 ∷ []) ∷ [])) 5 ∷
    anew (esp (numbers 0 ∷ transform 1 21 (128 ∷ []) ∷ [])) 5 ∷
    anew (registers (gsa (esp_policy 1 ∷ policy 3 (spi 2) (numbers 0 ∷ []) ∷ []) ∷ kd (esp_bag 1 ∷ esp_bag 2 ∷ []) ∷ [])) 5 ∷
    anew (esp (numbers 0 ∷ gcm 128 ∷ gcm 128 ∷ [])) 5 ∷
    anew (esp (gcm 128 ∷ gcm 128 ∷ [])) 5 ∷
    anew (esp (numbers 0 ∷ [])) 5 ∷
    -- ESP: exactly one of type 5, with ID 0 or 2, and no other type
    anew (esp (numbers 2 ∷ gcm 128 ∷ [])) 0 ∷
    anew (esp (numbers 1 ∷ gcm 128 ∷ [])) 5 ∷
    anew (esp (numbers 3 ∷ gcm 128 ∷ [])) 5 ∷
    anew (esp (gcm 128 ∷ [])) 5 ∷
    anew (esp (numbers 0 ∷ numbers 2 ∷ gcm 128 ∷ [])) 5 ∷
    anew (esp (transform 3 0 [] ∷ numbers 0 ∷ gcm 128 ∷ [])) 5 ∷
    anew (esp rekey_suite) 5 ∷
    -- Rekey: exactly one each of type 1, type 13 and type 14
    anew (rekey_new (kw 1 ∷ gcm 128 ∷ method 1 ∷ [])) 0 ∷
    anew (rekey_new (method 1 ∷ gcm 256 ∷ kw 3 ∷ [])) 0 ∷
    anew (rekey_new (kw 0 ∷ gcm 128 ∷ method 1 ∷ [])) 5 ∷
    anew (rekey_new (kw 4 ∷ gcm 128 ∷ method 1 ∷ [])) 5 ∷
    anew (rekey_new (kw 1 ∷ gcm 64 ∷ method 1 ∷ [])) 5 ∷
    anew (rekey_new (kw 1 ∷ transform 1 19 (128 ∷ []) ∷ method 1 ∷ [])) 5 ∷
    anew (rekey_new (kw 1 ∷ gcm 128 ∷ gcm 128 ∷ method 1 ∷ [])) 5 ∷
    anew (rekey_new (gcm 128 ∷ gcm 128 ∷ method 1 ∷ [])) 5 ∷
    anew (rekey_new (kw 1 ∷ kw 1 ∷ method 1 ∷ [])) 5 ∷
    anew (rekey_new (kw 1 ∷ gcm 128 ∷ numbers 0 ∷ [])) 5 ∷
    anew (rekey_new (gcm 128 ∷ method 1 ∷ [])) 5 ∷
    anew (rekey_new (kw 1 ∷ method 1 ∷ [])) 5 ∷
    anew (rekey_new (kw 1 ∷ kw 2 ∷ gcm 128 ∷ method 1 ∷ [])) 5 ∷
    anew (rekey_new (numbers 0 ∷ kw 1 ∷ gcm 128 ∷ method 1 ∷ [])) 5 ∷
    anew (rekey_new esp_suite) 5 ∷
    -- the controller authentication type by either method, in both exchanges
    anew (rekey_new (kw 1 ∷ gcm 128 ∷ method 2 ∷ [])) 0 ∷
    anew (rekey_new (kw 1 ∷ gcm 128 ∷ method 0 ∷ [])) 5 ∷
    anew (rekey_new (kw 1 ∷ gcm 128 ∷ method 3 ∷ [])) 5 ∷
    anew (rekey_new (kw 1 ∷ gcm 128 ∷ [])) 5 ∷
    anew (rekey_new (kw 1 ∷ gcm 128 ∷ method 1 ∷ method 2 ∷ [])) 5 ∷
    later (rekey_later (kw 1 ∷ gcm 128 ∷ method 1 ∷ [])) 0 ∷
    later (rekey_later (kw 1 ∷ gcm 128 ∷ method 2 ∷ [])) 0 ∷
    later (rekey_later (kw 1 ∷ gcm 128 ∷ [])) 5 ∷
    later (rekey_later (kw 1 ∷ gcm 128 ∷ method 3 ∷ [])) 5 ∷
    -- Delete of another protocol than ESP, or with count 0, also beside one that is fit
    later (rekeys (deletes 2 (spi 4 ∷ []) ∷ [])) 5 ∷
    later (rekeys (deletes 6 (live_spi ∷ []) ∷ [])) 5 ∷
    later (rekeys (deletes 1 (spi 4 ∷ []) ∷ [])) 5 ∷
    later (rekeys (deletes 3 [] ∷ [])) 5 ∷
    later (rekeys (deletion ∷ deletes 3 [] ∷ [])) 5 ∷
    later (rekeys (deletes 3 [] ∷ deletion ∷ [])) 5 ∷
    later (rekeys (deletes 2 (spi 4 ∷ []) ∷ deletion ∷ [])) 5 ∷
    later (rekeys (deletion ∷ deletes 2 (spi 4 ∷ []) ∷ [])) 5 ∷
    later (rekeys (deletes 0 (spi 4 ∷ []) ∷ [])) 5 ∷
    later (rekeys (deletes 3 [] ∷ gsa (esp_policy 1 ∷ []) ∷ kd (esp_bag 1 ∷ []) ∷ [])) 5 ∷
    later (rekeys (deletes 6 (live_spi ∷ []) ∷ gsa (esp_policy 1 ∷ []) ∷ kd (esp_bag 1 ∷ []) ∷ [])) 5 ∷
    []
