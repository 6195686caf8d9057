-- The reader of attributes breaks at an offset exactly when the relation says so, and where that offset lies.
use Prim.Native.Nat.{ℕ, ◌+◌, ◌<◌, ◌≤◌}
use mathlib.Core.Path.{◌≡◌, refl, ap, sym, ◌∙◌}
use mathlib.Core.List.{List, ◌++◌}
use mathlib.Core.Bool.{Bool, true, false, cond, ◌&&◌, and-false}
use mathlib.Core.Logic.{◌↔◌}
use native.Mathlib.Omega.{arith}
use borrow.Author.Tests.{lt-leb, leb-true, leb-false}
use lib.ListN.{length, take, drop, take-append-drop}
use lib.Seq.{length-take-le}
use Rattle.octets.specs.Walk.{be16, Reading, whole, broken}
use Rattle.octets.specs.Breaks.{own, inside}
use Rattle.octets.proofs.BreakLaws.{not-broken, structure-to, structure-from, row-to, row_from, Among, among-structure, among-row}
use Rattle.wire_attributes.specs.Attribute.{Attribute, is_short, attribute_size, attribute_of, fits}
use Rattle.wire_attributes.specs.Layout.{formed_in, fits_in, attribute, attributes}
use Rattle.wire_attributes.specs.Grammar.{IsAttribute}
use Rattle.wire_attributes.specs.Answers.{broken_at, spot_of}
use Rattle.wire_attributes.specs.Breaks.{FaultOfAttribute, cut, runs_past, unformed, BreaksAttribute, BreaksAttributes}
use Rattle.wire_attributes.specs.declared.tables.Place.{Place}
use Rattle.wire_attributes.proofs.Loops.{same-place}
use Rattle.wire_attributes.proofs.AttributeLaws.{size-least, takes}
use Rattle.wire_attributes.proofs.GrammarLaws.{same_size, same-attribute, formats, format-size, format-says, sound, complete}

module _ (p : Place) (s : List ℕ) where
  unfit : fits s ≡ false → fits_in p s ≡ false
  unfit e = ap (λ (t : Bool). t && formed_in p (attribute_of s)) e

  -- the own fields
  pub fault-unfit : FaultOfAttribute p s → fits_in p s ≡ false
  fault-unfit (cut h) = unfit (lt-leb (attribute_size s) (length s) (omega (arith, size-least s)))
  fault-unfit (runs_past h k) =
      let e : attribute_size s ≡ 4 + be16 s 2 = ap (λ (t : Bool). cond t 4 (4 + be16 s 2)) (lt-leb 32768 (be16 s 0) h) in
      unfit (lt-leb (attribute_size s) (length s) (omega arith))
  fault-unfit (unformed o rest {a = a} e f q) =
      let n = format-size p o a f in
      let m = size-least o in
      let w : attribute_of s ≡ a = ap attribute_of e ∙ same-attribute o rest (omega arith) (omega arith) ∙ format-says p o a f in
      ap (λ x. fits s && formed_in p x) w ∙ ap (λ (t : Bool). fits s && t) q ∙ and-false (fits s)

  fault-cut : (t : Bool) → is_short s ≡ t → length s < cond t 4 (4 + be16 s 2) → FaultOfAttribute p s
  fault-cut true e h = cut h
  fault-cut false e h = runs_past (leb-false 32768 (be16 s 0) e) h

  fault-formed : attribute_size s ≤ length s → formed_in p (attribute_of s) ≡ false → FaultOfAttribute p s
  fault-formed h q =
      let o = take (attribute_size s) s in
      let rest = drop (attribute_size s) s in
      let j : s ≡ take (attribute_size s) s ++ drop (attribute_size s) s = sym (take-append-drop (attribute_size s) s) in
      let m : length (take (attribute_size s) s) ≡ attribute_size s = length-take-le (attribute_size s) s h in
      let l = size-least s in
      let k : attribute_size s ≡ attribute_size (take (attribute_size s) s) = ap attribute_size j ∙ same_size o rest (omega arith) in
      let w : attribute_of (take (attribute_size s) s) ≡ attribute_of s =
      sym (ap attribute_of j ∙ same-attribute o rest (omega arith) (omega arith)) in
      unformed o rest j (formats p o (attribute_of s) (is_short o) refl (m ∙ k) w) q

  pub unfit-fault : fits_in p s ≡ false → FaultOfAttribute p s
  unfit-fault = go (fits s) refl
    where
      go : (t : Bool) → fits s ≡ t → (t && formed_in p (attribute_of s)) ≡ false → FaultOfAttribute p s
      go true e q = fault-formed (leb-true (attribute_size s) (length s) e) q
      go false e q = fault-cut (is_short s) refl (leb-false (attribute_size s) (length s) e)

module _ (p : Place) where
  pub attribute-to : (b : ℕ) (s : List ℕ) (o : ℕ) → attribute p b s ≡ broken o → BreaksAttribute p b s o
  unfolding attribute
  attribute-to b s o q =
      structure-to (FaultOfAttribute p s) ⊥ b (fits_in p s) (whole (attribute_of s) (drop (attribute_size s) s)) o (unfit-fault p s)
      (fault-unfit p s)
      (λ t e. not-broken e) q

  pub attribute-from : (b : ℕ) (s : List ℕ) (o : ℕ) → BreaksAttribute p b s o → attribute p b s ≡ broken o
  unfolding attribute
  attribute-from b s o i =
      structure-from (FaultOfAttribute p s) ⊥ b (fits_in p s) (whole (attribute_of s) (drop (attribute_size s) s)) o (unfit-fault p s)
      (fault-unfit p s) (λ e. absurd e) i

  pub attributes-to : (b : ℕ) (s : List ℕ) (o : ℕ) → attributes p b s ≡ broken o → BreaksAttributes p b s o
  attributes-to b s o q =
      row-to (attribute p) (takes p) (IsAttribute p) (sound p) (complete p) (BreaksAttribute p) attribute-to attribute-from b s o q

  pub attributes-from : (b : ℕ) (s : List ℕ) (o : ℕ) → BreaksAttributes p b s o → attributes p b s ≡ broken o
  attributes-from b s o i =
      row_from (attribute p) (takes p) (IsAttribute p) (sound p) (complete p) (BreaksAttribute p) attribute-to attribute-from i

  pub among-attributes : (b : ℕ) (s : List ℕ) (o : ℕ) → BreaksAttributes p b s o → Among b s o
  among-attributes b s o i =
      among-row (IsAttribute p) (BreaksAttribute p)
      (λ c r m h j. among-structure (FaultOfAttribute p r) ⊥ c r m h (λ n e. absurd e) j) i

  -- "The reader of one attribute shall report, with its refusal, the offset in the opened frame at which the attribute starts": what
  -- `attribute_in` answers where the attribute breaks, and that it is the offset it was given
  pub spot-broken : (b : ℕ) (s : List ℕ) (o : ℕ) → (spot_of s (attribute p b s) ≡ broken_at o) ↔ (FaultOfAttribute p s × (o ≡ b))
  spot-broken b s o = (
    λ q. parts (attribute-to b s o (go (attribute p b s) refl q)),
    λ i. ap (spot_of s) (attribute-from b s o (own i.0 i.1)),
  )
    where
      go : (y : Reading Attribute) → attribute p b s ≡ y → spot_of s y ≡ broken_at o → attribute p b s ≡ broken o
      go (whole a rest) e q = cc
      go (broken m) e q = e ∙ ap broken (same-place q)

      parts : BreaksAttribute p b s o → FaultOfAttribute p s × (o ≡ b)
      parts (own f e) = (f, e)
      parts (inside n z) = absurd z
