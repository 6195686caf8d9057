-- Samples of number 4.
use Prim.Native.Nat.{ℕ}
use mathlib.Core.List.{List, [], ◌∷◌, ◌++◌, map}
use mathlib.Core.Bool.{Bool, true, false}
use lib.ListN.{replicate}
use Rattle.wire_policies.specs.Selector.{Selector}
use Rattle.wire_policies.specs.Transform.{Transform}
use Rattle.wire_policies.specs.Policy.{group_sa}
use Rattle.wire_frames.specs.Frame.{Frame, Payload, Content, gsa, kd, unread}
use Rattle.rules_refusals.proofs.SampleParts.{spi, live_spi, next_spi, transform, esp_suite, rekey_suite}
use Rattle.rules_refusals.proofs.SampleParts.{selector, ip4, ip6, group, alone}
use Rattle.rules_refusals.proofs.SampleParts.{sa_policy, policy, esp_policy, rekey_policy, wide, esp_bag, rekey_bag, member_bag, wrap_key}
use Rattle.rules_refusals.proofs.SampleParts.{third_spi, deletes, kind_of, payload, frame_of, registers}
use Rattle.rules_refusals.proofs.SampleParts.{rekeys, fit, deletion, Sample, anew}
use Rattle.rules_refusals.proofs.SampleParts.{later}

-- a payload that is critical; one of another kind
abbrev must : Content → Payload
must c = record { kind = kind_of c; critical = true; content = c }

abbrev other : Bool → Payload
other b = record { kind = 40; critical = b; content = unread }

-- a rekey that has a critical payload of the kind k beside a deletion
abbrev critical : ℕ → Frame
critical k = frame_of live_spi 41 0 (record { kind = k; critical = true; content = unread } ∷ payload deletion ∷ [])

-- registrations that announce an ESP SA and a Rekey SA with this destination; one whose Rekey policy has these GSA_INITIAL_MESSAGE_ID
abbrev esp_to : Selector → Frame
esp_to d = registers (gsa (group_sa (sa_policy 3 (spi 1) d esp_suite []) ∷ []) ∷ kd (esp_bag 1 ∷ []) ∷ [])

abbrev rekey_to : Selector → Frame
rekey_to d = registers (gsa (group_sa (sa_policy 6 next_spi d rekey_suite []) ∷ []) ∷ kd (rekey_bag next_spi 1 ∷ []) ∷ [])

abbrev starting : List ℕ → Frame
starting l = registers (gsa (group_sa (sa_policy 6 next_spi group rekey_suite l) ∷ []) ∷ kd (rekey_bag next_spi 1 ∷ []) ∷ [])

-- registrations whose ESP policy has these transforms, and whose group-wide policy these deactivation delays
abbrev esp_with : List Transform → Frame
esp_with l = registers (gsa (policy 3 (spi 1) l ∷ []) ∷ kd (esp_bag 1 ∷ []) ∷ [])

abbrev delayed : List ℕ → Frame
delayed l = registers (gsa (esp_policy 1 ∷ wide l ∷ []) ∷ kd (esp_bag 1 ∷ []) ∷ [])

abbrev pub samples_of4 : List Sample
samples_of4 =
    -- a critical unknown payload; a known one may be critical
    later (critical 53) 4 ∷
    later (critical 33) 4 ∷
    later (critical 38) 4 ∷
    later (critical 40) 4 ∷
    later (critical 43) 4 ∷
    later (critical 46) 4 ∷
    later (critical 50) 4 ∷
    later (critical 41) 0 ∷
    later (critical 36) 0 ∷
    later (critical 37) 0 ∷
    later (critical 39) 0 ∷
    later (frame_of live_spi 41 0 (must deletion ∷ [])) 0 ∷
    anew (frame_of [] 39 0 (map must fit)) 0 ∷
    anew (frame_of [] 39 0 (map payload fit ++ other true ∷ [])) 4 ∷
    anew (frame_of [] 39 0 (map payload fit ++ other false ∷ [])) 0 ∷
    -- a Member bag in a rekey, an empty one too; D in a registration
    later (rekeys (gsa (esp_policy 1 ∷ []) ∷ kd (esp_bag 1 ∷ []) ∷ [])) 0 ∷
    later (rekeys (gsa (esp_policy 1 ∷ []) ∷ kd (esp_bag 1 ∷ member_bag [] ∷ []) ∷ [])) 4 ∷
    later (rekeys (gsa (esp_policy 1 ∷ []) ∷ kd (member_bag (wrap_key 5 0 ∷ []) ∷ esp_bag 1 ∷ []) ∷ [])) 4 ∷
    anew (frame_of [] 40 0 (map payload (gsa (esp_policy 1 ∷ []) ∷ kd (esp_bag 1 ∷ member_bag [] ∷ []) ∷ []))) 0 ∷
    anew (registers (deletion ∷ fit)) 4 ∷
    anew (registers (deletes 3 [] ∷ fit)) 4 ∷
    anew (registers (deletes 2 (spi 4 ∷ []) ∷ fit)) 4 ∷
    anew (frame_of [] 40 0 (map payload (deletion ∷ fit))) 4 ∷
    -- two GSA, two KD; KD may stand before GSA, and several D in a rekey
    anew (registers (gsa (esp_policy 1 ∷ []) ∷ gsa (esp_policy 2 ∷ []) ∷ kd (esp_bag 1 ∷ esp_bag 2 ∷ []) ∷ [])) 4 ∷
    anew (registers (gsa (esp_policy 1 ∷ esp_policy 2 ∷ []) ∷ kd (esp_bag 1 ∷ []) ∷ kd (esp_bag 2 ∷ []) ∷ [])) 4 ∷
    anew (registers (gsa (esp_policy 1 ∷ []) ∷ kd (esp_bag 1 ∷ []) ∷ kd [] ∷ [])) 4 ∷
    anew
    (registers (gsa (esp_policy 1 ∷ []) ∷ gsa (esp_policy 2 ∷ []) ∷ gsa (esp_policy 3 ∷ []) ∷ kd (esp_bag 1 ∷ esp_bag 2 ∷ esp_bag 3 ∷ []) ∷ []))
    4 ∷
    anew (registers (gsa (esp_policy 1 ∷ []) ∷ kd (esp_bag 1 ∷ []) ∷ kd [] ∷ kd [] ∷ [])) 4 ∷
    anew (registers (unread ∷ kd (esp_bag 1 ∷ []) ∷ unread ∷ gsa (esp_policy 1 ∷ []) ∷ [])) 0 ∷
    anew (registers (kd (esp_bag 1 ∷ []) ∷ gsa (esp_policy 1 ∷ []) ∷ [])) 0 ∷
    later (rekeys (deletion ∷ gsa (esp_policy 1 ∷ []) ∷ deletion ∷ kd (esp_bag 1 ∷ []) ∷ [])) 0 ∷
    -- one without the other, which D does not heal
    anew (registers (gsa (esp_policy 1 ∷ []) ∷ [])) 4 ∷
    anew (registers (kd (esp_bag 1 ∷ []) ∷ [])) 4 ∷
    anew (registers (kd [] ∷ [])) 4 ∷
    later (rekeys (deletion ∷ kd (esp_bag 1 ∷ []) ∷ [])) 4 ∷
    later (rekeys (deletion ∷ kd [] ∷ [])) 4 ∷
    later (rekeys (deletion ∷ gsa (esp_policy 1 ∷ []) ∷ [])) 4 ∷
    -- neither, unless a rekey has D
    anew (registers []) 4 ∷
    anew (registers (unread ∷ [])) 4 ∷
    anew (registers (deletion ∷ [])) 4 ∷
    later (rekeys []) 4 ∷
    later (rekeys (unread ∷ [])) 4 ∷
    later (rekeys (deletion ∷ [])) 0 ∷
    -- more than one Rekey policy, group-wide policy or Member bag, the last two empty as well
    anew (registers (gsa (rekey_policy live_spi ∷ []) ∷ kd (rekey_bag live_spi 1 ∷ []) ∷ [])) 0 ∷
    anew (registers (gsa (rekey_policy live_spi ∷ rekey_policy next_spi ∷ []) ∷ kd (rekey_bag live_spi 1 ∷ rekey_bag next_spi 1 ∷ []) ∷ [])) 4 ∷
    anew
    (registers
    (gsa (rekey_policy live_spi ∷ rekey_policy next_spi ∷ rekey_policy third_spi ∷ []) ∷
    kd (rekey_bag live_spi 1 ∷ rekey_bag next_spi 1 ∷ rekey_bag third_spi 1 ∷ []) ∷ []))
    4 ∷
    anew (registers (gsa (esp_policy 1 ∷ wide [] ∷ []) ∷ kd (esp_bag 1 ∷ []) ∷ [])) 0 ∷
    anew (registers (gsa (wide [] ∷ esp_policy 1 ∷ wide [] ∷ []) ∷ kd (esp_bag 1 ∷ []) ∷ [])) 4 ∷
    anew (registers (gsa (wide [] ∷ wide [] ∷ wide [] ∷ esp_policy 1 ∷ []) ∷ kd (esp_bag 1 ∷ []) ∷ [])) 4 ∷
    anew (registers (gsa (esp_policy 1 ∷ []) ∷ kd (member_bag [] ∷ esp_bag 1 ∷ []) ∷ [])) 0 ∷
    anew (registers (gsa (esp_policy 1 ∷ []) ∷ kd (member_bag [] ∷ member_bag [] ∷ esp_bag 1 ∷ []) ∷ [])) 4 ∷
    anew (registers (gsa (esp_policy 1 ∷ []) ∷ kd (member_bag [] ∷ member_bag [] ∷ member_bag [] ∷ esp_bag 1 ∷ []) ∷ [])) 4 ∷
    -- a GSA with no SA policy: empty, or with a group-wide policy alone
    anew (registers (gsa [] ∷ kd [] ∷ [])) 4 ∷
    anew (registers (gsa (wide [] ∷ []) ∷ kd [] ∷ [])) 4 ∷
    -- twice in one place: Key Length in a transform of any policy, GSA_INITIAL_MESSAGE_ID, the deactivation delay
    anew (esp_with (transform 5 0 [] ∷ transform 1 20 (128 ∷ 128 ∷ []) ∷ [])) 4 ∷
    anew (esp_with (transform 5 0 [] ∷ transform 1 20 (128 ∷ 128 ∷ 128 ∷ []) ∷ [])) 4 ∷
    anew (esp_with (transform 5 0 [] ∷ transform 1 19 (128 ∷ 128 ∷ []) ∷ [])) 4 ∷
    anew (registers (gsa (policy 2 (spi 1) (transform 1 20 (128 ∷ 256 ∷ []) ∷ []) ∷ []) ∷ kd [] ∷ [])) 4 ∷
    anew (registers (gsa (esp_policy 1 ∷ policy 3 (spi 2) (transform 1 20 (128 ∷ 256 ∷ []) ∷ []) ∷ []) ∷ kd (esp_bag 1 ∷ []) ∷ [])) 4 ∷
    anew (starting (7 ∷ [])) 0 ∷
    anew (starting (7 ∷ 7 ∷ [])) 4 ∷
    anew (starting (7 ∷ 7 ∷ 7 ∷ [])) 4 ∷
    anew (delayed (3 ∷ [])) 0 ∷
    anew (delayed (3 ∷ 3 ∷ [])) 4 ∷
    anew (delayed (3 ∷ 3 ∷ 3 ∷ [])) 4 ∷
    -- a Rekey destination: one address in 224.0.0.0/4 or ff00::/8, one port; an ESP destination is not judged
    anew (rekey_to (selector 7 848 848 (ip4 223) (ip4 223))) 4 ∷
    anew (rekey_to (selector 7 848 848 (ip4 224) (ip4 224))) 0 ∷
    anew (rekey_to (selector 7 848 848 (ip4 239) (ip4 239))) 0 ∷
    anew (rekey_to (selector 7 848 848 (ip4 240) (ip4 240))) 4 ∷
    anew (rekey_to (selector 7 848 848 (ip4 255) (ip4 255))) 4 ∷
    anew (rekey_to (selector 7 848 848 (ip4 230) (ip4 231))) 4 ∷
    anew (rekey_to (selector 7 848 848 (239 ∷ 1 ∷ 1 ∷ 1 ∷ []) (239 ∷ 1 ∷ 1 ∷ 2 ∷ []))) 4 ∷
    anew (rekey_to (selector 7 848 848 (239 ∷ 1 ∷ 1 ∷ 2 ∷ []) (239 ∷ 1 ∷ 1 ∷ 1 ∷ []))) 4 ∷
    anew (rekey_to (selector 7 848 848 (239 ∷ 1 ∷ 1 ∷ 1 ∷ []) (239 ∷ 2 ∷ 1 ∷ 1 ∷ []))) 4 ∷
    anew (rekey_to (selector 7 848 849 (ip4 239) (ip4 239))) 4 ∷
    anew (rekey_to (selector 7 0 65535 (ip4 239) (ip4 239))) 4 ∷
    anew (rekey_to (selector 7 0 0 (ip4 239) (ip4 239))) 0 ∷
    anew (rekey_to (selector 7 65535 65535 (ip4 239) (ip4 239))) 0 ∷
    anew (rekey_to (selector 8 848 848 (ip6 254) (ip6 254))) 4 ∷
    anew (rekey_to (selector 8 848 848 (ip6 255) (ip6 255))) 0 ∷
    anew (rekey_to (selector 8 848 848 (ip6 239) (ip6 239))) 4 ∷
    anew (rekey_to (selector 8 848 848 (ip6 255) (255 ∷ 3 ∷ replicate 14 2))) 4 ∷
    anew (rekey_to (selector 8 848 848 (ip6 255) (255 ∷ replicate 14 2 ++ 3 ∷ []))) 4 ∷
    anew (rekey_to (selector 8 848 849 (ip6 255) (ip6 255))) 4 ∷
    anew
    (registers
    (gsa (esp_policy 1 ∷ group_sa (sa_policy 6 next_spi alone rekey_suite []) ∷ []) ∷ kd (esp_bag 1 ∷ rekey_bag next_spi 1 ∷ []) ∷ []))
    4 ∷
    anew (esp_to alone) 0 ∷
    anew (esp_to (selector 7 1 2 (ip4 10) (ip4 11))) 0 ∷
    later (rekeys (gsa (group_sa (sa_policy 3 (spi 1) alone esp_suite []) ∷ []) ∷ kd (esp_bag 1 ∷ []) ∷ [])) 0 ∷
    []
