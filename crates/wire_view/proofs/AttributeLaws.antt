-- An attribute as a view shows it, and what attributes take.
use Prim.Native.Nat.{ℕ, ◌+◌, ◌-◌}
use mathlib.Core.Path.{◌≡◌, refl, ap, sym, ◌∙◌}
use mathlib.Core.List.{List}
use mathlib.Core.Bool.{Bool, cond}
use native.Mathlib.Omega.{arith}
use lib.ListN.{length, length-append, length-drop}
use Rattle.octets.specs.Walk.{part, Row, no-more, then}
use Rattle.octets.proofs.Walks.{part_length}
use Rattle.wire_attributes.specs.Attribute.{Attribute, value_offset, value_octets, attribute_of, lead_of}
use Rattle.wire_attributes.specs.Place.{meaning_of}
use Rattle.wire_attributes.specs.Grammar.{Format, in-short, in-long, IsAttribute}
use Rattle.wire_attributes.specs.declared.tables.Place.{Place}
use Rattle.wire_attributes.specs.declared.tables.Meaning.{Meaning}
use Rattle.wire_attributes.proofs.AttributeLaws.{IsRead, read-inside}
use Rattle.wire_view.specs.View.{shown_attribute, attributes_span}
use Rattle.wire_view.specs.declared.items.Item.TheVariants as item

-- WHAT THEY TAKE
pub of_format : (o : List ℕ) (a : Attribute) → Format o a → lead_of a + length a.value ≡ length o
of_format o a (in-short x) =
    let l : lead_of a ≡ 2 = ap (λ (t : Bool). cond t 2 4) x.format in
    omega (arith, l, ap length x.value, length-drop 2 o, x.size)
of_format o a (in-long x) =
    let l : lead_of a ≡ 4 = ap (λ (t : Bool). cond t 2 4) x.format in
    omega (arith, l, ap length x.value, length-drop 4 o, x.size)

pub row-octets : {p : Place} {s : List ℕ} {l : List Attribute} → Row (IsAttribute p) s l → attributes_span l ≡ length s
unfolding attributes_span
row-octets no-more = refl
row-octets (then o s {a = a} i r) = omega (arith, of_format o a i.format, row-octets r, length-append o s)

-- WHAT IT IS SHOWN AS
module _ (p : Place) (s : List ℕ) (base : ℕ) (short : Bool) (kind a e : ℕ) (f : IsRead s short kind a e) where
  pub shown-is : (m : Meaning) → m ≡ meaning_of p kind
      → item.Attribute m short kind (base + a) (base + e) ≡ shown_attribute p base (attribute_of s)
  shown-is m mq =
      let i = read-inside s short kind a e f in
      let v : length (value_octets s) ≡ e - a = (λ j. length (part s (f.start j) (f.size j))) ∙ part_length s a e i.0 i.1 in
      let w : base + e ≡ base + value_offset s + length (value_octets s) = omega (arith, v, f.start, i.0) in
      ap (λ (y : Meaning). item.Attribute y short kind (base + a) (base + e)) mq
      ∙ (λ j. item.Attribute (meaning_of p (sym f.type j)) (sym f.format j) (sym f.type j) (base + sym f.start j) (w j))
