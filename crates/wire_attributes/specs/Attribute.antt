-- An attribute (RFC 7296, section 3.3.5): what its octets say.
use Rattle.std.specs.Prelude.{ℕ, ◌+◌, ◌%◌, List, Bool, cond, length, leb}
use Rattle.ikev2_numbers.specs.Codes.{attribute_head_octets, format_bit, short_attribute_octets, short_head_octets}
use Rattle.octets.specs.Walk.{be16, part}

-- document 01: "top bit 1: 15-bit type and 2-octet value. Top bit 0: type, length 2, value"
pub record Attribute : Type 0 where
  pub short : Bool
  pub kind : ℕ
  pub value : List ℕ

-- whether the format is TV (top bit 1)
abbrev pub is_short : List ℕ → Bool
is_short s = leb format_bit (be16 s 0)

abbrev pub kind_of : List ℕ → ℕ
kind_of s = be16 s 0 % format_bit

-- where the value starts, and how many octets the attribute takes in all
abbrev pub value_offset : List ℕ → ℕ
value_offset s = cond (is_short s) short_head_octets attribute_head_octets

abbrev pub attribute_size : List ℕ → ℕ
attribute_size s = cond (is_short s) short_attribute_octets (attribute_head_octets + be16 s 2)

abbrev pub value_octets : List ℕ → List ℕ
value_octets s = part s (value_offset s) (attribute_size s)

abbrev pub attribute_of : List ℕ → Attribute
attribute_of s = record { short = is_short s; kind = kind_of s; value = value_octets s }

-- how many octets the attribute `a` has before its value, and in all
abbrev pub lead_of : Attribute → ℕ
lead_of a = cond a.short short_head_octets attribute_head_octets

abbrev pub span_of : Attribute → ℕ
span_of a = lead_of a + length a.value

-- whether all octets of the attribute at the start of `s` are there
abbrev pub fits : List ℕ → Bool
fits s = leb (attribute_size s) (length s)
