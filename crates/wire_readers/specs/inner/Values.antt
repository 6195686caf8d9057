-- What the readers answer on attributes whose layout is whole: their values, and where a value stands.
use Rattle.std.specs.Prelude.{ℕ, ◌+◌, ◌-◌, ◌<◌, ◌≤◌, ◌≡◌, List, [], ◌∷◌, Bool, true, false, cond, eqb, length, drop, get_or, Option, Some, None}
use Rattle.octets.specs.Walk.{part, Reading, whole, broken}
use Rattle.wire_attributes.specs.Attribute.{Attribute, lead_of, span_of}
use Rattle.wire_attributes.specs.Answers.{value_at, value_start}
use Rattle.wire_attributes.specs.Place.{key_value_sized}
use Rattle.wire_attributes.specs.Tree.{means, values_of}
use Rattle.wire_attributes.specs.Layout.{attributes}
use Rattle.wire_attributes.specs.declared.tables.Place.{Place}
use Rattle.wire_attributes.specs.declared.tables.Meaning.{Meaning}
use Rattle.wire_attributes.specs.declared.tables.Meaning.TheVariants as meaning
use Rattle.wire_readers.specs.declared.Stretch.{Stretch}

abbrev pub is_whole : {A : Type 0} → Reading A → Bool
is_whole (whole a rest) = true
is_whole (broken o) = false

-- 1 if `b` is true, else 0
abbrev pub once : Bool → ℕ
once b = cond b 1 0

-- the stretch of a value that is not there
abbrev pub nowhere : Stretch
nowhere = record { start = 0; end = 0 }

abbrev pub items_of : {A : Type 0} → Reading (List A) → List A
items_of (whole l rest) = l
items_of (broken o) = []

abbrev pub attributes_in : Place → List ℕ → List Attribute
attributes_in p s = items_of (attributes p 0 s)

-- the values of those attributes of `s` that mean `m` in the place `p`
abbrev pub values_in : Meaning → Place → List ℕ → List (List ℕ)
values_in m p s = values_of m p (attributes_in p s)

-- where those values stand: the attributes come one after the other from the index `b` on, each with its value behind its lead (`lead_of`)
unfoldable pub places_of : Meaning → Place → ℕ → List Attribute → List Stretch
places_of m p b [] = []
places_of m p b (a ∷ l) =
    cond (means m p a) (record { start = b + lead_of a; end = b + span_of a } ∷ places_of m p (b + span_of a) l)
    (places_of m p (b + span_of a) l)

abbrev pub places_in : Meaning → Place → List ℕ → ℕ → List Stretch
places_in m p s from = places_of m p from (attributes_in p (drop from s))

-- whether a value of a meaning may have `n` octets, where the layout is whole
abbrev pub value_size : Meaning → ℕ → Bool
value_size meaning.Skipped n = true
value_size meaning.KeyLength n = eqb n 2
value_size meaning.InitialMessageId n = eqb n 4
value_size meaning.DeactivationDelay n = eqb n 2
value_size meaning.KeyLifetime n = eqb n 4
value_size meaning.SaKey n = key_value_sized n
value_size meaning.WrapKey n = key_value_sized n
value_size meaning.FreshKey n = key_value_sized n

-- the first such value from the index `from` on stands from `a` to `e`, and nowhere else, even where equal octets stand; the others come
-- after it
pub record ValueFoundAt (m : Meaning) (p : Place) (s : List ℕ) (from a e : ℕ) : Type 0 where
  pub first : values_in m p (drop from s) ≡ part s a e ∷ values_in m p (drop e s)
  pub place : places_in m p s from ≡ record { start = a; end = e } ∷ places_in m p s e
  pub start : from < a
  pub order : a ≤ e
  pub inside : e ≤ length s
  pub size : value_size m (e - a) ≡ true
  pub rest : is_whole (attributes p 0 (drop e s)) ≡ true

-- the attribute from `b` to `e` holds that first value
pub record MetAt (m : Meaning) (p : Place) (s : List ℕ) (from b e : ℕ) : Type 0 where
  pub value : ValueFoundAt m p s from (value_start s b) e
  pub octets : value_at (drop b s) ≡ part s (value_start s b) e

abbrev pub FindsValue : Meaning → Place → List ℕ → ℕ → Option Stretch → Type 0
FindsValue m p s from (Some x) = MetAt m p s from x.start x.end
FindsValue m p s from None = (values_in m p (drop from s) ≡ []) × (places_in m p s from ≡ [])

-- the first such value from the index `from` on, and where it starts; empty, and 0, where there is none
abbrev pub first_value : Meaning → Place → List ℕ → ℕ → List ℕ
first_value m p s from = get_or (values_in m p (drop from s)) 0 []

abbrev pub first_start : Meaning → Place → List ℕ → ℕ → ℕ
first_start m p s from = (get_or (places_in m p s from) 0 nowhere).start
