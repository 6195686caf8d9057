-- What the readers of one selector, transform or attribute say of a step from a cursor.
use Rattle.std.specs.Prelude.{Ok, Option, Some}
use Prim.Native.Nat.{ℕ, ◌+◌, ◌-◌, ◌/◌, ◌%◌, ◌<◌, ◌≤◌}
use mathlib.Core.Path.{◌≡◌, refl, ap, sym, ◌∙◌, subst}
use mathlib.Core.List.{List, [], ◌++◌}
use mathlib.Core.Bool.{Bool, true, cond}
use native.Mathlib.Nat.{add-zero}
use native.Mathlib.Omega.{arith}
use borrow.Author.Tests.{lt-leb, eq-eqb, ne_eqb}
use lib.Dec.{eqb}
use lib.ListN.{length, take, drop, length-append, length-drop, drop_of_length-le}
use lib.Seq.{get_or-drop, take-append_seam}
use Rattle.lists.proofs.Cases.{and_parts}
use Rattle.octets.specs.Numbers.{oct}
use Rattle.octets.specs.Walk.{part, Reading, whole, broken, Reader, Linked}
use Rattle.octets.proofs.Walks.{tail, Takes, to_end}
use Rattle.octets.proofs.Inverse.{inverse-opened}
use Rattle.wire_attributes.specs.Attribute.{Attribute, attribute_size, attribute_of, fits}
use Rattle.wire_attributes.specs.Layout.{formed_in, fits_in, attribute}
use Rattle.wire_attributes.specs.Answers.{spot_of}
use Rattle.wire_attributes.specs.declared.tables.Place.{Place}
use Rattle.wire_attributes.proofs.Loops.{next-is, spot-broken}
use Rattle.wire_attributes.proofs.AttributeLaws.{size-least, cut_in}
use Rattle.wire_attributes.proofs.AttributeLaws.{takes as attribute-takes}
use Rattle.wire_policies.specs.Selector.{Selector, selector}
use Rattle.wire_policies.specs.Transform.{Transform, transform}
use Rattle.wire_policies.specs.Grammar.{IsSelector, IsTransform}
use Rattle.wire_policies.proofs.SelectorLaws.{takes as selector-takes}
use Rattle.wire_policies.proofs.SelectorGrammar.{sound as selector-sound}
use Rattle.wire_policies.proofs.TransformLaws.{takes as transform-takes, next_of}
use Rattle.wire_policies.proofs.TransformGrammar.{sound as transform-sound}
use Rattle.wire_view.specs.View.{shown_selector, shown_transform, shown_attribute}
use Rattle.wire_view.specs.View.{at_transform, at_attribute, cursor_at, stay_step, stepped, selector_step}
use Rattle.wire_view.specs.View.{transform_step, policy_place, attribute_step, step_by, is_counted, step_at}
use Rattle.wire_view.specs.declared.items.Item.{Item}
use Rattle.wire_view.specs.declared.read.Step.{Step}

abbrev pub told : Option Item → ℕ → Step
told r n = record { item = r; next = n }

-- BY WHAT WAS READ
module _ {A : Type 0} (s : List ℕ) (c : ℕ) (show : A → Item) (comes : A → ℕ) (x : Reading A) where
  on : (a : A) (e : ℕ) → x ≡ whole a (drop e s) → e ≤ length s → (r : Option Item) (n : ℕ) → r ≡ Some (show a) → n ≡ cursor_at e (comes a)
      → told r n ≡ stepped s c show comes x
  on a e q h r n rq nq =
      let d : e ≡ length s - length (drop e s) = omega (arith, length-drop e s, h) in
      (λ j. told (rq j) ((nq ∙ ap (λ (k : ℕ). cursor_at k (comes a)) d) j)) ∙ ap (stepped s c show comes) (sym q)

  off : (o : ℕ) → x ≡ broken o → stay_step c ≡ stepped s c show comes x
  off o q = ap (stepped s c show comes) (sym q)

-- the octets of what was read
piece : (s : List ℕ) (at e : ℕ) (o : List ℕ) → drop at s ≡ o ++ drop (at + e) s → at + e ≤ length s → part s at (at + e) ≡ o
piece s at e o q h =
    let m : at + e - at ≡ length o =
    omega (arith, ap length q, length-drop at s, length-append o (drop (at + e) s), length-drop (at + e) s, h) in
    (λ j. take (m j) (q j)) ∙ take-append_seam o (drop (at + e) s)

-- what a reader finds at `&s[at..]`
record Found {A : Type 0} (p : Reader A) (s : List ℕ) (at e : ℕ) : Type 0 where
  item : A
  is : p at (drop at s) ≡ whole item (drop (at + e) s)
  some : 0 < e
  inside : at + e ≤ length s

module _ {A : Type 0} (p : Reader A) (takes : (b : ℕ) (s : List ℕ) → Takes s (p b s)) (s : List ℕ) (at : ℕ) (h : at ≤ length s) where
  from_zero : 0 + at ≡ at
  from_zero = omega arith

  found : (e : ℕ) → Ok e ≡ spot_of (tail s at) (p at (tail s at)) → Found p s at e
  found e q =
      let n = next-is p takes 0 s at h e (q ∙ ap (λ (k : ℕ). spot_of (tail s at) (p k (tail s at))) (sym from_zero)) in
      record { item = n.item; is = ap (λ (k : ℕ). p k (drop at s)) (sym from_zero) ∙ n.is; some = n.some; inside = n.inside }

-- no attribute in no octet
pub none-there : (p : Place) (b : ℕ) (l : List ℕ) → length l ≡ 0 → attribute p b l ≡ broken b
none-there p b l z =
    spot-broken l (attribute p b l) b (cut_in p b l (lt-leb (attribute_size l) (length l) (omega (arith, size-least l, z))))

module _ (s : List ℕ) (c at : ℕ) where
  past : length s < at → drop at s ≡ []
  past h = let l : length s ≤ at = omega (arith, h) in drop_of_length-le s l

  -- A SELECTOR
  pub selector-past : (comes : ℕ) → length s < at → stay_step c ≡ selector_step s c comes at
  unfolding selector
  selector-past comes h =
      ap (λ (l : List ℕ). stepped s c (shown_selector at) (λ (x : Selector). comes) (selector 0 at l))
      (sym (past h))

  module _ (h : at ≤ length s) (comes : ℕ) where
    module _ (e : ℕ) (q : Ok e ≡ spot_of (tail s at) (selector 0 at (tail s at))) where
      read : Found (selector 0) s at e
      read = found (selector 0) (selector-takes 0) s at h e q

      pub selector-inside : at + e ≤ length s
      selector-inside = read.inside

      selector-is : IsSelector (part s at (at + e)) read.item
      selector-is =
          let f = selector-sound 0 at (drop at s) read.item (drop (at + e) s) read.is in
          subst (λ (o : List ℕ). IsSelector o read.item) (sym (piece s at e f.octets f.joined read.inside)) f.is

      pub selector-there : (x : Selector) × IsSelector (part s at (at + e)) x
      selector-there = (read.item, selector-is)

      pub over-selector : (r : Item) → ((x : Selector) → IsSelector (part s at (at + e)) x → r ≡ shown_selector at x)
          → (n : ℕ) → n ≡ cursor_at (at + e) comes → told (Some r) n ≡ selector_step s c comes at
      over-selector r k n nq =
          on s c (shown_selector at) (λ (x : Selector). comes) (selector 0 at (drop at s)) read.item (at + e) read.is read.inside
          (Some r) n (ap Some (k read.item selector-is)) nq

  -- A TRANSFORM
  abbrev shows : Linked Bool Transform → Item
  shows x = shown_transform x.item

  abbrev comes-next : Linked Bool Transform → ℕ
  comes-next x = cond x.next at_transform at_attribute

  pub transform-past : length s < at → stay_step c ≡ transform_step s c at
  unfolding transform
  transform-past h =
      ap (λ (l : List ℕ). stepped s c shows comes-next (transform 0 true at l)) (sym (past h))

  module _ (h : at ≤ length s) where
    module _ (e : ℕ) (q : Ok e ≡ spot_of (tail s at) (transform 0 true at (tail s at))) where
      read-transform : Found (transform 0 true) s at e
      read-transform = found (transform 0 true) (transform-takes 0 true) s at h e q

      pub transform-inside : (0 < e) × (at + e ≤ length s)
      transform-inside = (read-transform.some, read-transform.inside)

      transform-is : IsTransform true (part s at (at + e)) read-transform.item.item read-transform.item.next
      transform-is =
          let x = read-transform.item in
          let f = transform-sound 0 true at (drop at s) x (drop (at + e) s) refl read-transform.is in
          subst (λ (o : List ℕ). IsTransform true o x.item x.next)
          (sym (piece s at e f.octets f.joined read-transform.inside)) f.is

      pub transform-there : (t : Transform) × (more : Bool) × IsTransform true (part s at (at + e)) t more
      transform-there = (read-transform.item.item, read-transform.item.next, transform-is)

      module _ (r : Item) (k : (t : Transform) (more : Bool) → IsTransform true (part s at (at + e)) t more → r ≡ shown_transform t)
          (m : ℕ) (mq : m ≡ oct s at) where
        mark : read-transform.item.next ≡ eqb m 3
        mark =
            let u : oct (drop at s) 0 ≡ oct s at = simp (get_or-drop, add-zero) in
            next_of 0 true at (drop at s) read-transform.item (drop (at + e) s) read-transform.is
            ∙ ap (λ (y : ℕ). eqb y 3) (u ∙ sym mq)

        over : (n : ℕ) → n ≡ cursor_at (at + e) (comes-next read-transform.item) → told (Some r) n ≡ transform_step s c at
        over n nq =
            on s c shows comes-next (transform 0 true at (drop at s)) read-transform.item (at + e) read-transform.is
            read-transform.inside (Some r) n (ap Some (k read-transform.item.item read-transform.item.next transform-is)) nq

        pub over-transform : m ≡ 3 → (n : ℕ) → n ≡ cursor_at (at + e) at_transform → told (Some r) n ≡ transform_step s c at
        over-transform z n nq =
            over n (nq ∙ ap (λ (t : Bool). cursor_at (at + e) (cond t at_transform at_attribute)) (sym (mark ∙ eq-eqb m 3 z)))

        pub over_last : (m ≡ 3 → ⊥) → (n : ℕ) → n ≡ cursor_at (at + e) at_attribute → told (Some r) n ≡ transform_step s c at
        over_last z n nq =
            over n (nq ∙ ap (λ (t : Bool). cursor_at (at + e) (cond t at_transform at_attribute)) (sym (mark ∙ ne_eqb m 3 z)))

  -- AN ATTRIBUTE
  pub attribute-past : length s < at → stay_step c ≡ attribute_step s c at
  attribute-past h =
      off s c (shown_attribute (policy_place s) at) (λ (a : Attribute). at_attribute) (attribute (policy_place s) at (drop at s)) at
      (none-there (policy_place s) at (drop at s) (omega (arith, length-drop at s, h)))

  module _ (h : at ≤ length s) (p : Place) (pq : p ≡ policy_place s) where
    step_of : Place → Step
    step_of y = stepped s c (shown_attribute y at) (λ (a : Attribute). at_attribute) (attribute y at (drop at s))

    module _ (e : ℕ) (q : Ok e ≡ spot_of (tail s at) (attribute p at (tail s at))) where
      read-attribute : Found (attribute p) s at e
      read-attribute = found (attribute p) (attribute-takes p) s at h e q

      whole-one : (fits (drop at s) ≡ true) × (attribute_of (drop at s) ≡ read-attribute.item)
      unfolding attribute
      whole-one =
          let y = drop at s in
          let n = read-attribute in
          let g = inverse-opened at (fits_in p y) (whole (attribute_of y) (drop (attribute_size y) y)) n.item (drop (at + e) s) n.is in
          let k = g.1 in
          let u : attribute_of y ≡ n.item = cc in
          ((and_parts (fits y) (formed_in p (attribute_of y)) g.0).0, u)

      pub over-attribute : (r : Option Item) → (fits (tail s at) ≡ true → r ≡ Some (shown_attribute p at (attribute_of (tail s at))))
          → (n : ℕ) → n ≡ cursor_at (at + e) at_attribute → told r n ≡ attribute_step s c at
      unfolding step_of
      over-attribute r k n nq =
          let f = ap fits (to_end s at) ∙ whole-one.0 in
          let g : r ≡ Some (shown_attribute p at read-attribute.item) =
          k f ∙ ap (λ (y : List ℕ). Some (shown_attribute p at (attribute_of y))) (to_end s at)
          ∙ ap (λ (y : Attribute). Some (shown_attribute p at y)) whole-one.1 in
          on s c (shown_attribute p at) (λ (a : Attribute). at_attribute) (attribute p at (drop at s)) read-attribute.item (at + e)
          read-attribute.is read-attribute.inside r n g nq
          ∙ ap step_of pq

-- WHICH OF THEM
module _ (s : List ℕ) (c : ℕ) where
  pub goes_by : (k b : ℕ) → is_counted s ≡ true → c % 4 ≡ k → c / 4 ≡ b → step_at s c ≡ step_by s c k b
  goes_by k b h kq bq = λ j. cond (h j) (step_by s c (kq j) (bq j)) (stay_step c)
