-- WHERE KEY BAGS BREAK, defined without the readers (document 02, T-06): `s` is the octets from the bag's first on, to the end of its
-- payload, `b` the offset of that first octet, and `o` the offset that number 1 carries. `fresh` says whether fresh keys are read in the
-- Rekey SA's bag (document 02, T-11).
use Rattle.std.specs.Prelude.{ℕ, ◌+◌, List, Bool}
use Rattle.ikev2_numbers.specs.Codes.{policy_head_octets, structure_length_at}
use Rattle.octets.specs.Numbers.{oct}
use Rattle.octets.specs.Walk.{be16, part}
use Rattle.octets.specs.Breaks.{BreaksStructure, BreaksInRow}
use Rattle.wire_attributes.specs.Breaks.{BreaksAttributes}
use Rattle.wire_policies.specs.Policy.{spi_size}
use Rattle.wire_policies.specs.Breaks.{FaultOfHead}
use Rattle.wire_bags.specs.Bag.{place_of}
use Rattle.wire_bags.specs.Grammar.{IsBag}

-- a key bag, which holds attributes after its head and its SPI, if it has one
abbrev pub BreaksBag : Bool → ℕ → List ℕ → ℕ → Type 0
BreaksBag fresh b s o =
    BreaksStructure (FaultOfHead s)
    (BreaksAttributes (place_of fresh (oct s 0)) (b + (policy_head_octets + spi_size (oct s 0)))
    (part s (policy_head_octets + spi_size (oct s 0)) (be16 s structure_length_at)) o) b o

-- key bags one after the other, to the end of `s`
abbrev pub BreaksBags : Bool → ℕ → List ℕ → ℕ → Type 0
BreaksBags fresh b s o = BreaksInRow (IsBag fresh) (BreaksBag fresh) b s o
