-- The readers of selectors and transforms break at an offset exactly when the relations say so, and where that offset lies.
use Prim.Native.Nat.{ℕ, ◌+◌}
use mathlib.Core.Path.{◌≡◌, refl, ap, ◌∙◌}
use mathlib.Core.List.{List}
use mathlib.Core.Bool.{Bool, true, false, cond, ◌&&◌, ◌||◌}
use mathlib.Core.Logic.{◌⊎◌, inl, inr}
use native.Mathlib.Omega.{arith}
use borrow.Author.Tests.{lt-leb, leb-false, le-ltb, ltb-false, ne_eqb, eqb-false}
use lib.Dec.{leb, ltb, eqb}
use lib.ListN.{length, drop}
use Rattle.octets.specs.Numbers.{oct}
use Rattle.octets.specs.Walk.{be16, part, sized, whole, broken, mapped, opened, closed, within}
use Rattle.octets.specs.Breaks.{BreaksStructure}
use Rattle.octets.proofs.BreakLaws.{not-broken, mapped-broken, closed-broken, not_left, not_right, one-not, unsized-fault, fault-unsized}
use Rattle.octets.proofs.BreakLaws.{structure-to, structure-from, due-to, due-from, chain-to, chain-from}
use Rattle.octets.proofs.BreakLaws.{AmongOr, among-structure, among-due, among-chain, among-part}
use Rattle.wire_attributes.specs.Place.{in_transform}
use Rattle.wire_attributes.specs.Layout.{attributes}
use Rattle.wire_attributes.specs.Breaks.{BreaksAttributes}
use Rattle.wire_attributes.proofs.BreakLaws.{attributes-to, attributes-from, among-attributes}
use Rattle.wire_policies.specs.Selector.{selector_size, selector_of, selector_fits, selector}
use Rattle.wire_policies.specs.Transform.{is_mark, transform_fits, transform_of, transform, no_more, transforms}
use Rattle.wire_policies.specs.Grammar.{IsTransform}
use Rattle.wire_policies.specs.Breaks.{FaultOfSelector, unknown, cut, other_length, BreaksSelector}
use Rattle.wire_policies.specs.Breaks.{FaultOfTransform, by_length, unmarked, BreaksTransform, BreaksTransforms}
use Rattle.wire_policies.proofs.TransformLaws.{takes}
use Rattle.wire_policies.proofs.TransformGrammar.{sound, complete}

-- A SELECTOR
-- types other than 7 and 8 have no size
no-type : (t : ℕ) → (t ≡ 7 → ⊥) → (t ≡ 8 → ⊥) → selector_size t ≡ 0
no-type t f g =
    ap (λ (x : Bool). cond x 16 (cond (eqb t 8) 40 0)) (ne_eqb t 7 f) ∙ ap (λ (x : Bool). cond x 40 0) (ne_eqb t 8 g)

type-known : (t : ℕ) → selector_size t ≡ 0 → (t ≡ 7 → ⊥) × (t ≡ 8 → ⊥)
type-known t e = (λ q. omega (arith, e, ap selector_size q), λ q. omega (arith, e, ap selector_size q))

module _ (s : List ℕ) where
  there : Bool
  there = leb (selector_size (oct s 0)) (length s)

  counted : Bool
  counted = eqb (be16 s 2) (selector_size (oct s 0))

  pub selector-unfit : FaultOfSelector s → selector_fits s ≡ false
  unfolding there counted
  selector-unfit (unknown f g) =
      not_left (ltb 0 (selector_size (oct s 0))) (there && counted)
      (le-ltb 0 (selector_size (oct s 0)) (omega (arith, no-type (oct s 0) f g)))
  selector-unfit (cut h) =
      not_right (ltb 0 (selector_size (oct s 0))) (there && counted)
      (not_left there counted (lt-leb (selector_size (oct s 0)) (length s) h))
  selector-unfit (other_length n) =
      not_right (ltb 0 (selector_size (oct s 0))) (there && counted)
      (not_right there counted (ne_eqb (be16 s 2) (selector_size (oct s 0)) n))

  pub selector-fault : selector_fits s ≡ false → FaultOfSelector s
  unfolding there counted
  selector-fault q = go (one-not (ltb 0 (selector_size (oct s 0))) (there && counted) q)
    where
      rest : (there ≡ false) ⊎ (counted ≡ false) → FaultOfSelector s
      rest (inl e) = cut (leb-false (selector_size (oct s 0)) (length s) e)
      rest (inr e) = other_length (eqb-false (be16 s 2) (selector_size (oct s 0)) e)

      go : (ltb 0 (selector_size (oct s 0)) ≡ false) ⊎ ((there && counted) ≡ false) → FaultOfSelector s
      go (inl e) =
          let n = ltb-false 0 (selector_size (oct s 0)) e in
          let k = type-known (oct s 0) (omega arith) in
          unknown k.0 k.1
      go (inr e) = rest (one-not there counted e)

module _ (h b : ℕ) (s : List ℕ) (o : ℕ) where
  pub selector-to : selector h b s ≡ broken o → BreaksSelector h b s o
  unfolding selector
  selector-to q =
      let x = whole (selector_of s) (drop (selector_size (oct s 0)) s) in
      due-to h s (opened b (selector_fits s) x) (BreaksStructure (FaultOfSelector s) ⊥ b o) o
      (λ k e. structure-to (FaultOfSelector s) ⊥ b (selector_fits s) x o (selector-fault s) (selector-unfit s) (λ t z. not-broken z) e) q

  pub selector-from : BreaksSelector h b s o → selector h b s ≡ broken o
  unfolding selector
  selector-from i =
      let x = whole (selector_of s) (drop (selector_size (oct s 0)) s) in
      due-from h s (opened b (selector_fits s) x) (BreaksStructure (FaultOfSelector s) ⊥ b o) o
      (structure-from (FaultOfSelector s) ⊥ b (selector_fits s) x o (selector-fault s) (selector-unfit s) (λ z. absurd z)) i

  pub among-selector : BreaksSelector h b s o → AmongOr h b s o
  among-selector i =
      among-due h b s (BreaksStructure (FaultOfSelector s) ⊥ b o) o
      (λ k j. among-structure (FaultOfSelector s) ⊥ b s o k (λ n z. absurd z) j) i

-- A TRANSFORM
module _ (s : List ℕ) where
  pub transform-unfit : FaultOfTransform s → transform_fits s ≡ false
  transform-unfit (by_length f) = not_left (sized 8 s) (is_mark (oct s 0)) (fault-unsized 8 s f)
  transform-unfit (unmarked f g) =
      not_right (sized 8 s) (is_mark (oct s 0))
      (ap (λ (t : Bool). t || eqb (oct s 0) 0) (ne_eqb (oct s 0) 3 f) ∙ ne_eqb (oct s 0) 0 g)

  pub transform-fault : transform_fits s ≡ false → FaultOfTransform s
  transform-fault q = go (one-not (sized 8 s) (is_mark (oct s 0)) q)
    where
      marks : (t u : Bool) → eqb (oct s 0) 3 ≡ t → eqb (oct s 0) 0 ≡ u → (t || u) ≡ false → FaultOfTransform s
      marks true u e f z = let w : ◌≡◌ {A = ℕ} 0 1 = cc in absurd (omega arith)
      marks false true e f z = let w : ◌≡◌ {A = ℕ} 0 1 = cc in absurd (omega arith)
      marks false false e f z = unmarked (eqb-false (oct s 0) 3 e) (eqb-false (oct s 0) 0 f)

      go : (sized 8 s ≡ false) ⊎ (is_mark (oct s 0) ≡ false) → FaultOfTransform s
      go (inl e) = by_length (unsized-fault 8 s e)
      go (inr e) = marks (eqb (oct s 0) 3) (eqb (oct s 0) 0) refl refl e

module _ (h : ℕ) where
  module _ (b : ℕ) (s : List ℕ) (o : ℕ) where
    Holds : Type 0
    Holds = BreaksAttributes (in_transform (oct s 4)) (b + 8) (part s 8 (be16 s 2)) o

    held_to : mapped (transform_of s) (within 8 (be16 s 2) (attributes (in_transform (oct s 4))) b s) ≡ broken o → Holds
    unfolding Holds
    held_to q =
        attributes-to (in_transform (oct s 4)) (b + 8) (part s 8 (be16 s 2)) o
        (closed-broken (drop (be16 s 2) s) (attributes (in_transform (oct s 4)) (b + 8) (part s 8 (be16 s 2))) o
        (mapped-broken (transform_of s) (within 8 (be16 s 2) (attributes (in_transform (oct s 4))) b s) o q))

    held-from : Holds → mapped (transform_of s) (within 8 (be16 s 2) (attributes (in_transform (oct s 4))) b s) ≡ broken o
    unfolding Holds
    held-from i =
        ap (λ x. mapped (transform_of s) (closed (drop (be16 s 2) s) x))
        (attributes-from (in_transform (oct s 4)) (b + 8) (part s 8 (be16 s 2)) o i)

  transform-to : (more : Bool) (b : ℕ) (s : List ℕ) (o : ℕ) → no_more more s ≡ false → transform h more b s ≡ broken o
      → BreaksTransform h more b s o
  unfolding transform Holds
  transform-to more b s o m q =
      let x = mapped (transform_of s) (within 8 (be16 s 2) (attributes (in_transform (oct s 4))) b s) in
      due-to h s (opened b (transform_fits s) x) (BreaksStructure (FaultOfTransform s) (Holds b s o) b o) o
      (λ k e. structure-to (FaultOfTransform s) (Holds b s o) b (transform_fits s) x o (transform-fault s) (transform-unfit s)
      (λ t. held_to b s o) e) q

  transform-from : (more : Bool) (b : ℕ) (s : List ℕ) (o : ℕ) → no_more more s ≡ false → BreaksTransform h more b s o
      → transform h more b s ≡ broken o
  unfolding transform Holds
  transform-from more b s o m i =
      let x = mapped (transform_of s) (within 8 (be16 s 2) (attributes (in_transform (oct s 4))) b s) in
      due-from h s (opened b (transform_fits s) x) (BreaksStructure (FaultOfTransform s) (Holds b s o) b o) o
      (structure-from (FaultOfTransform s) (Holds b s o) b (transform_fits s) x o (transform-fault s) (transform-unfit s)
      (held-from b s o)) i

  pub transforms-to : (b : ℕ) (s : List ℕ) (o : ℕ) → transforms h b s ≡ broken o → BreaksTransforms h b s o
  transforms-to b s o q =
      chain-to no_more (transform h) (takes h) IsTransform (sound h) (complete h) (BreaksTransform h) transform-to transform-from true b s o
      q

  pub transforms-from : (b : ℕ) (s : List ℕ) (o : ℕ) → BreaksTransforms h b s o → transforms h b s ≡ broken o
  transforms-from b s o i =
      chain-from no_more (transform h) (takes h) IsTransform (sound h) (complete h) (BreaksTransform h) transform-to transform-from i

  pub among-transforms : (b : ℕ) (s : List ℕ) (o : ℕ) → BreaksTransforms h b s o → AmongOr h b s o
  among-transforms b s o i = among-chain no_more IsTransform (BreaksTransform h) h (λ more c r m j. one c r m j) i
    where
      one : (c : ℕ) (r : List ℕ) (m : ℕ) → BreaksTransform h true c r m → AmongOr h c r m
      one c r m j =
          let Inside = BreaksAttributes (in_transform (oct r 4)) (c + 8) (part r 8 (be16 r 2)) m in
          among-due h c r (BreaksStructure (FaultOfTransform r) Inside c m) m
          (λ k y. among-structure (FaultOfTransform r) Inside c r m k
          (λ n z. among-part c 8 (be16 r 2) r m (among-attributes (in_transform (oct r 4)) (c + 8) (part r 8 (be16 r 2)) m z)) y) j
