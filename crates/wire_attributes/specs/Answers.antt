-- What the readers answer, by what the octets are.
use Rattle.std.specs.Prelude.{ℕ, ◌+◌, ◌-◌, cond, List, [], ◌∷◌, length, drop, Option, Some, None, Result, Ok, Err}
use Rattle.octets.specs.Walk.{Reading, whole, broken}
use Rattle.wire_attributes.specs.Attribute.{is_short, kind_of, value_offset, attribute_size, fits, value_octets}
use Rattle.wire_attributes.specs.declared.AttributeHead.{AttributeHead}
use Rattle.wire_attributes.specs.declared.Broken.{Broken}

-- the answer on a structure that broke first, at the offset `o`
abbrev pub broken_at : {A : Type 0} → ℕ → Result A Broken
broken_at o = Err (record { at = o })

abbrev pub layout_of : {A : Type 0} → Reading A → Result (Unit {0}) Broken
layout_of (whole a rest) = Ok tt
layout_of (broken o) = broken_at o

-- document 01's number of a layout, 0 where it is whole, and the offset that number 1 carries (document 02, T-06)
abbrev pub layout_number : Result (Unit {0}) Broken → ℕ
layout_number (Ok u) = 0
layout_number (Err e) = 1

abbrev pub layout_offset : Result (Unit {0}) Broken → List ℕ
layout_offset (Ok u) = []
layout_offset (Err e) = e.at ∷ []

-- where the structure read at the start of `s` ends, counted from the first octet of `s`
abbrev pub spot_of : {A : Type 0} → List ℕ → Reading A → Result ℕ Broken
spot_of s (whole a rest) = Ok (length s - length rest)
spot_of s (broken o) = broken_at o

-- the value of the attribute at the start of `s`; empty where the attribute is cut short
abbrev pub value_at : List ℕ → List ℕ
value_at s = cond (fits s) (value_octets s) []

-- where in `s` the value of the attribute at the index `at` starts; 0 where no whole attribute stands there
abbrev pub value_start : List ℕ → ℕ → ℕ
value_start s at = cond (fits (drop at s)) (at + value_offset (drop at s)) 0

-- what a whole attribute's head says: its format, its type, where its value starts and where it ends
abbrev pub head_of : List ℕ → AttributeHead
head_of s = record { short = is_short s; kind = kind_of s; start = value_offset s; end = attribute_size s }

abbrev pub read_of : List ℕ → Option AttributeHead
read_of s = cond (fits s) (Some (head_of s)) None
