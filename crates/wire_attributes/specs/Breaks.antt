-- WHERE ATTRIBUTES BREAK, defined without the readers (document 02, T-06). Here `s` is the octets from the attribute's first on, to the end
-- of what holds it, and `b` the offset of that first octet; `o` of a break is the offset that number 1 carries.
use Rattle.std.specs.Prelude.{ℕ, ◌+◌, ◌<◌, ◌≡◌, List, ◌++◌, false, length}
use Rattle.ikev2_numbers.specs.Codes.{attribute_head_octets, format_bit}
use Rattle.octets.specs.Walk.{be16}
use Rattle.octets.specs.Breaks.{BreaksStructure, BreaksInRow}
use Rattle.wire_attributes.specs.Attribute.{Attribute}
use Rattle.wire_attributes.specs.Layout.{formed_in}
use Rattle.wire_attributes.specs.Grammar.{Format, IsAttribute}
use Rattle.wire_attributes.specs.declared.tables.Place.{Place}

pub data FaultOfAttribute (p : Place) (s : List ℕ) : Type 0 where
  -- "one cut short has begun"
  cut : length s < attribute_head_octets → FaultOfAttribute p s
  -- top bit 0: the value that its length counts is not all there
  runs_past : be16 s 0 < format_bit → length s < attribute_head_octets + be16 s 2 → FaultOfAttribute p s
  -- all its octets are there, it is read in this place, and it has not the format or size of the tables
  unformed : (o rest : List ℕ) {a : Attribute} → s ≡ o ++ rest → Format o a → formed_in p a ≡ false → FaultOfAttribute p s

-- an attribute holds nothing: its own fields alone are judged
abbrev pub BreaksAttribute : Place → ℕ → List ℕ → ℕ → Type 0
BreaksAttribute p b s o = BreaksStructure (FaultOfAttribute p s) ⊥ b o

-- attributes one after the other, to the end of `s`
abbrev pub BreaksAttributes : Place → ℕ → List ℕ → ℕ → Type 0
BreaksAttributes p b s o = BreaksInRow (IsAttribute p) (BreaksAttribute p) b s o
