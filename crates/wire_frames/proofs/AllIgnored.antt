-- What is ignored, computed: a frame with each structure that has such octets. Changing one of them, or what is free of it, changes
-- nothing.
use Prim.Native.Nat.{ℕ}
use mathlib.Core.Path.{◌≡◌, refl}
use mathlib.Core.List.{List, [], ◌∷◌, ◌++◌, map}
use mathlib.Core.Bool.{Bool, true, false}
use lib.ListN.{set}
use Rattle.octets.specs.Numbers.{number}
use Rattle.octets.specs.Walk.{Reading, whole, broken, chain, chain_up_to, many}
use Rattle.wire_attributes.specs.Tree.{values_of}
use Rattle.wire_attributes.specs.Layout.{attribute}
use Rattle.wire_policies.specs.Selector.{selector}
use Rattle.wire_policies.specs.Transform.{transform}
use Rattle.wire_policies.specs.Policy.{suite, sa_body, policy}
use Rattle.wire_bags.specs.Bag.{bag}
use Rattle.wire_frames.specs.Delete.{stretches}
use Rattle.wire_frames.specs.Frame.{body, Payload, payload, Frame, frame}

-- 28 octets of header: version 2.0, flags 8
abbrev header : List ℕ
header = 1 ∷ 2 ∷ 3 ∷ 4 ∷ 5 ∷ 6 ∷ 7 ∷ 8 ∷ 9 ∷ 10 ∷ 11 ∷ 12 ∷ 13 ∷ 14 ∷ 15 ∷ 16 ∷ 51 ∷ 32 ∷ 41 ∷ 8 ∷ 0 ∷ 0 ∷ 0 ∷ 7 ∷ 0 ∷ 0 ∷ 0 ∷ 195 ∷ []

abbrev ip4 : List ℕ
ip4 = 7 ∷ 17 ∷ 0 ∷ 16 ∷ 3 ∷ 80 ∷ 3 ∷ 80 ∷ 239 ∷ 1 ∷ 2 ∷ 3 ∷ 239 ∷ 1 ∷ 2 ∷ 3 ∷ []

-- from 28 on GSA: a group-wide policy at 32; at 40 an ESP policy with transforms at 80 and 92
abbrev gsa_octets : List ℕ
gsa_octets =
    (52 ∷ 0 ∷ 0 ∷ 72 ∷ 0 ∷ 0 ∷ 0 ∷ 8 ∷ 128 ∷ 2 ∷ 0 ∷ 5 ∷ 3 ∷ 4 ∷ 0 ∷ 60 ∷ 9 ∷ 8 ∷ 7 ∷ 6 ∷ []) ++ (ip4 ++ (ip4 ++
    (3 ∷ 0 ∷ 0 ∷ 12 ∷ 1 ∷ 0 ∷ 0 ∷ 20 ∷ 128 ∷ 14 ∷ 0 ∷ 192 ∷ 0 ∷ 0 ∷ 0 ∷ 8 ∷ 5 ∷ 0 ∷ 0 ∷ 2 ∷ [])))

abbrev key : List ℕ
key = 0 ∷ 1 ∷ 0 ∷ 24 ∷ 0 ∷ 0 ∷ 0 ∷ 5 ∷ 0 ∷ 0 ∷ 0 ∷ 0 ∷ 1 ∷ 2 ∷ 3 ∷ 4 ∷ 5 ∷ 6 ∷ 7 ∷ 8 ∷ 1 ∷ 2 ∷ 3 ∷ 4 ∷ 5 ∷ 6 ∷ 7 ∷ 8 ∷ []

-- from 100 on KD: a Member Key Bag at 104, a Group Key Bag at 136
abbrev kd_octets : List ℕ
kd_octets = (41 ∷ 0 ∷ 0 ∷ 72 ∷ 0 ∷ 0 ∷ 0 ∷ 32 ∷ []) ++ (key ++ ((3 ∷ 4 ∷ 0 ∷ 36 ∷ 9 ∷ 8 ∷ 7 ∷ 6 ∷ []) ++ key))

-- at 172 N, at 178 a critical payload of an unknown type, at 183 D
abbrev others : List ℕ
others = 99 ∷ 0 ∷ 0 ∷ 6 ∷ 1 ∷ 2 ∷ 42 ∷ 128 ∷ 0 ∷ 5 ∷ 9 ∷ 0 ∷ 0 ∷ 0 ∷ 12 ∷ 3 ∷ 4 ∷ 0 ∷ 1 ∷ 9 ∷ 8 ∷ 7 ∷ 6 ∷ []

abbrev sample : List ℕ
sample = header ++ (gsa_octets ++ (kd_octets ++ others))

pub record Change : Type 0 where
  pub at : ℕ
  pub octet : ℕ

abbrev to : ℕ → ℕ → Change
to i x = record { at = i; octet = x }

-- "Flags, minor version and RESERVED octets are ignored"
abbrev changes : List Change
changes =
    -- the minor version; each flag set, none set
    to 17 47 ∷ to 17 33 ∷ to 19 255 ∷ to 19 0 ∷
    -- the seven bits under the critical one: of GSA, KD, N, the critical payload, D
    to 29 127 ∷ to 101 127 ∷ to 173 127 ∷ to 179 255 ∷ to 184 127 ∷ to 29 1 ∷ to 179 192 ∷
    -- the group-wide policy's and the Member Key Bag's second octet
    to 33 255 ∷ to 105 255 ∷ to 33 4 ∷ to 105 16 ∷
    -- both reserved octets of each transform
    to 81 255 ∷ to 85 255 ∷ to 93 255 ∷ to 97 255 ∷
    -- the body of N, and of the payload of an unknown type
    to 176 255 ∷ to 177 255 ∷ to 182 255 ∷ []

read : Reading Frame → List Bool
read (whole x rest) = map (λ (p : Payload). p.critical) x.payloads
read (broken o) = []

-- the tree stays the same
ignored-in-sample : map (λ (c : Change). frame false (set sample c.at c.octet)) changes
    ≡ map (λ (c : Change). frame false sample) changes
unfolding frame payload body policy suite sa_body selector transform bag attribute many chain chain_up_to number values_of stretches
ignored-in-sample = refl

-- the critical bit is the top one: it stands at the payload at 178 alone, and is gone with that bit alone; the major version is read
critical-in-sample : (read (frame false sample) ≡ false ∷ false ∷ false ∷ true ∷ false ∷ [])
    × (read (frame false (set sample 179 127)) ≡ false ∷ false ∷ false ∷ false ∷ false ∷ [])
    × (read (frame false (set sample 29 128)) ≡ true ∷ false ∷ false ∷ true ∷ false ∷ []) × (frame false (set sample 17 64) ≡ broken 0)
unfolding read frame payload body policy suite sa_body selector transform bag attribute many chain chain_up_to number values_of stretches
critical-in-sample = (refl, refl, refl, refl)
