-- THESE OCTETS ARE THIS ATTRIBUTE, defined without the readers (RFC 7296, section 3.3.5; document 01, "How a frame is laid out").
use Rattle.std.specs.Prelude.{ℕ, ◌+◌, ◌%◌, ◌<◌, ◌≤◌, ◌≡◌, List, true, false, length, drop}
use Rattle.ikev2_numbers.specs.Codes.{attribute_head_octets, format_bit, short_attribute_octets, short_head_octets}
use Rattle.octets.specs.Walk.{be16, Row}
use Rattle.wire_attributes.specs.Attribute.{Attribute}
use Rattle.wire_attributes.specs.Layout.{formed_in}
use Rattle.wire_attributes.specs.declared.tables.Place.{Place}

-- "top bit 1: 15-bit type and 2-octet value"
pub record IsShort (o : List ℕ) (a : Attribute) : Type 0 where
  pub format : a.short ≡ true
  pub top : format_bit ≤ be16 o 0
  pub kind : be16 o 0 % format_bit ≡ a.kind
  pub size : length o ≡ short_attribute_octets
  pub value : drop short_head_octets o ≡ a.value

-- "top bit 0: type, length 2, value"
pub record IsLong (o : List ℕ) (a : Attribute) : Type 0 where
  pub format : a.short ≡ false
  pub top : be16 o 0 < format_bit
  pub kind : be16 o 0 % format_bit ≡ a.kind
  pub size : length o ≡ attribute_head_octets + be16 o 2
  pub value : drop attribute_head_octets o ≡ a.value

pub data Format (o : List ℕ) (a : Attribute) : Type 0 where
  in-short : IsShort o a → Format o a
  in-long : IsLong o a → Format o a

-- the octets `o` are the attribute `a` in the place `p`: if it is read there, it has the format and size of the tables
pub record IsAttribute (p : Place) (o : List ℕ) (a : Attribute) : Type 0 where
  pub format : Format o a
  pub formed : formed_in p a ≡ true

-- attributes one after the other, to the end
abbrev pub Attributes : Place → List ℕ → List Attribute → Type 0
Attributes p s l = Row (IsAttribute p) s l
