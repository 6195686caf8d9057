-- Samples of the definitions, computed: numbers with the most significant octet first, and the offsets at which the walker reads.
use Prim.Native.Nat.{ℕ, ◌+◌}
use mathlib.Core.Path.{◌≡◌, refl}
use mathlib.Core.List.{List, [], ◌∷◌}
use mathlib.Core.Bool.{Bool, true, false, not}
use lib.Dec.{eqb, leb}
use lib.ListN.{length, drop}
use Rattle.octets.specs.Numbers.{oct, number, octets_of}
use Rattle.octets.specs.Walk.{be16, be32, part, sized, whole, broken, Reader, opened, begun, within, and_then}
use Rattle.octets.specs.Walk.{Linked, chain_up_to, chain, many}

abbrev four : List ℕ
four = 1 ∷ 2 ∷ 3 ∷ 4 ∷ []

-- RFC 7296, section 3.1: "network byte order"; 0x01020304 is 16909060
numbers : (number 1 four ≡ 1) × (number 2 four ≡ 258) × (number 4 four ≡ 16909060) × (be16 four 1 ≡ 515) × (be16 four 2 ≡ 772)
    × (be32 (9 ∷ four) 1 ≡ 16909060) × (octets_of 2 258 ≡ 1 ∷ 2 ∷ []) × (octets_of 4 16909060 ≡ four)
unfolding number octets_of
numbers = (refl, refl, refl, refl, refl, refl, refl, refl)

-- octets from an index up to another; past the end there are none, and 0 is read
parts : (part four 1 3 ≡ 2 ∷ 3 ∷ []) × (part four 3 9 ≡ 4 ∷ []) × (part four 2 2 ≡ []) × (oct four 3 ≡ 4) × (oct four 4 ≡ 0)
parts = (refl, refl, refl, refl, refl)

-- octets 2 and 3 count all octets: as many as are asked for, and as are there
sizes : (sized 4 (9 ∷ 9 ∷ 0 ∷ 4 ∷ []) ≡ true) × (sized 5 (9 ∷ 9 ∷ 0 ∷ 4 ∷ []) ≡ false) × (sized 4 (9 ∷ 9 ∷ 0 ∷ 5 ∷ []) ≡ false)
    × (sized 4 (9 ∷ 9 ∷ 1 ∷ 4 ∷ []) ≡ false) × (sized 4 (9 ∷ 9 ∷ 0 ∷ 4 ∷ 9 ∷ []) ≡ true)
unfolding number
sizes = (refl, refl, refl, refl, refl)

-- a box: an octet that counts the octets after it, which are boxes of one octet each, marked 7. It answers its own offset
abbrev mark : Reader ℕ
mark b s = opened b (eqb (oct s 0) 7) (whole b (drop 1 s))

abbrev box : Reader (List ℕ)
box b s = opened b (leb (oct s 0) (length (drop 1 s))) (within 1 (1 + oct s 0) (many mark) b s)

-- every structure is read at its own offset, and a broken one answers it: behind one another, within one another, in a chain
offsets : (many mark 100 (7 ∷ 7 ∷ 7 ∷ []) ≡ whole (100 ∷ 101 ∷ 102 ∷ []) []) × (many mark 100 (7 ∷ 7 ∷ 8 ∷ []) ≡ broken 102)
    × (many box 100 (2 ∷ 7 ∷ 7 ∷ 0 ∷ 1 ∷ 7 ∷ []) ≡ whole ((101 ∷ 102 ∷ []) ∷ [] ∷ (105 ∷ []) ∷ []) [])
    × (many box 100 (1 ∷ 7 ∷ 3 ∷ 7 ∷ 7 ∷ []) ≡ broken 102) × (many box 100 (1 ∷ 7 ∷ 2 ∷ 7 ∷ 8 ∷ []) ≡ broken 104)
    × (and_then mark (λ a. and_then mark (λ b' c r. whole (a ∷ b' ∷ c ∷ []) r)) 100 (7 ∷ 7 ∷ 9 ∷ []) ≡
    whole (100 ∷ 101 ∷ 102 ∷ []) (9 ∷ []))
unfolding many chain chain_up_to
offsets = (refl, refl, refl, refl, refl, refl)

-- a structure of which no octet is there counts for its holder; one that has begun for itself
begins : (begun 90 [] (mark 100 []) ≡ broken 90) × (begun 90 (8 ∷ []) (mark 100 (8 ∷ [])) ≡ broken 100)
begins = (refl, refl)

-- a chain goes on while the state says so, and leaves the octets after it
abbrev link : Bool → Reader (Linked Bool ℕ)
link more b s = opened b (leb 1 (length s)) (whole (record { item = b; next = eqb (oct s 0) 3 }) (drop 1 s))

chains : (chain (λ more s. not more) link true 100 (3 ∷ 3 ∷ 0 ∷ 3 ∷ []) ≡ whole (100 ∷ 101 ∷ 102 ∷ []) (3 ∷ []))
    × (chain (λ more s. not more) link true 100 (3 ∷ 3 ∷ []) ≡ broken 102)
unfolding chain chain_up_to
chains = (refl, refl)
