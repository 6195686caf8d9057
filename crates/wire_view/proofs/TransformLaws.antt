-- A transform as a view shows it.
use Prim.Native.Nat.{ℕ, ◌+◌, ◌<◌, ◌≤◌}
use mathlib.Core.Bool.{Bool, true}
use mathlib.Core.Path.{◌≡◌, refl, ap, sym, ◌∙◌}
use mathlib.Core.List.{List, [], ◌∷◌, map}
use native.Mathlib.Omega.{arith}
use borrow.Author.Tests.{eqb-true}
use lib.ListN.{length, get_or, length-map}
use Rattle.octets.specs.Numbers.{oct, number}
use Rattle.octets.specs.Walk.{be16}
use Rattle.octets.proofs.Walks.{tail as cut, to_end}
use Rattle.wire_attributes.specs.Place.{in_transform}
use Rattle.wire_attributes.specs.Tree.{number16, values_of}
use Rattle.wire_attributes.specs.Layout.{attributes}
use Rattle.wire_attributes.specs.declared.tables.Place.{Place}
use Rattle.wire_attributes.specs.declared.tables.Meaning.TheVariants as meaning
use Rattle.wire_attributes.proofs.GrammarLaws.{are-read}
use Rattle.wire_policies.specs.Transform.{Transform}
use Rattle.wire_policies.specs.Grammar.{IsTransform}
use Rattle.wire_readers.specs.inner.Values.{is_whole, attributes_in, values_in, value_size, first_value}
use Rattle.wire_readers.proofs.ValuesLaws.{is-whole}
use Rattle.wire_view.specs.View.{shown_transform}
use Rattle.wire_view.specs.declared.items.Item.TheVariants as item

-- THE FIRST KEY LENGTH
pub key-there : (v : List ℕ) → (0 < length v → value_size meaning.KeyLength (length v) ≡ true) → (length v ≡ 0 → ⊥) → 0 + 2 ≤ length v
key-there v f n = let h : 0 < length v = omega (arith, n) in omega (arith, eqb-true (length v) 2 (f h))

pub key-is : (p : Place) (s v : List ℕ) → v ≡ first_value meaning.KeyLength p s 0
    → be16 v 0 ≡ get_or (map number16 (values_in meaning.KeyLength p s)) 0 0
unfolding number
key-is p s v e = ap (λ (x : List ℕ). be16 x 0) e ∙ sym (first_two (values_in meaning.KeyLength p s))
  where
    first_two : (l : List (List ℕ)) → get_or (map number16 l) 0 0 ≡ be16 (get_or l 0 []) 0
    first_two [] = refl
    first_two (x ∷ l) = refl

pub key-none : (p : Place) (s v : List ℕ) → v ≡ first_value meaning.KeyLength p s 0 → length v ≡ 0
    → 0 ≡ get_or (map number16 (values_in meaning.KeyLength p s)) 0 0
unfolding number
key-none p s [] e n = key-is p s [] e
key-none p s (x ∷ v) e n = absurd (omega (arith, n))

-- ONE TRANSFORM
module _ (s : List ℕ) (t : Transform) (more : Bool) (i : IsTransform true s t more) (k : ℕ) (kq : k ≡ oct s 4) (p : Place)
    (pq : p ≡ in_transform k) where
  place_is : p ≡ in_transform t.kind
  place_is = pq ∙ ap in_transform (kq ∙ i.kind)

  -- its attributes, as the code lends them
  held-is : (is_whole (attributes p 0 (cut s 8)) ≡ true) × (attributes_in p (cut s 8) ≡ i.attributes)
  held-is =
      is-whole (attributes p 0 (cut s 8)) i.attributes []
      ((λ j. attributes (place_is j) 0 (to_end s 8 j)) ∙ are-read (in_transform t.kind) i.held 0)

  pub held : is_whole (attributes p 0 (cut s 8)) ≡ true
  held = held-is.0

  lengths : map number16 (values_in meaning.KeyLength p (cut s 8)) ≡ t.key_lengths
  lengths = (λ j. map number16 (values_of meaning.KeyLength (place_is j) (held-is.1 j))) ∙ i.key_lengths

  pub shown-is : (id n l : ℕ) → id ≡ be16 s 6 → n ≡ length (values_in meaning.KeyLength p (cut s 8))
      → l ≡ get_or (map number16 (values_in meaning.KeyLength p (cut s 8))) 0 0 → item.Transform k id n l ≡ shown_transform t
  shown-is id n l dq nq lq =
      let v = values_in meaning.KeyLength p (cut s 8) in
      let c : n ≡ length t.key_lengths = nq ∙ sym (length-map v number16) ∙ ap length lengths in
      let g : l ≡ get_or t.key_lengths 0 0 = lq ∙ ap (λ (x : List ℕ). get_or x 0 0) lengths in
      λ j. item.Transform ((kq ∙ i.kind) j) ((dq ∙ i.id) j) (c j) (g j)
