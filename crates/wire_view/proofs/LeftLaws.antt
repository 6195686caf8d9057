-- A VIEW SHOWS FEWER ITEMS AFTER EACH STEP, so a walk ends: a step leads behind the octets that it read.
use Rattle.std.specs.Prelude.{Option, Some, None, MatchOption}
use Rattle.std.specs.Iterator.{YieldsFirst, MakesProgress, item_count}
use Rattle.std.proofs.Common.{rules}
use Prim.Native.Nat.{ℕ, zero, suc, ◌-◌, ◌/◌, ◌%◌, ◌<◌, ◌≤◌}
use mathlib.Core.Path.{◌≡◌, refl, ap, sym, ◌∙◌, subst}
use mathlib.Core.List.{List, [], ◌∷◌}
use mathlib.Core.Bool.{Bool, true, false, cond}
use native.Mathlib.Omega.{arith}
use borrow.Author.Tests.{ne_eqb}
use lib.Dec.{eqb}
use lib.ListN.{length, take, drop, length-drop}
use Rattle.octets.specs.Walk.{Reading, whole, broken, Linked}
use Rattle.octets.proofs.Walks.{Takes, took-fewer, by-test}
use Rattle.wire_attributes.specs.Attribute.{Attribute}
use Rattle.wire_attributes.specs.Layout.{attribute}
use Rattle.wire_attributes.proofs.AttributeLaws.{takes as attribute-takes}
use Rattle.wire_policies.specs.Selector.{Selector, selector}
use Rattle.wire_policies.specs.Transform.{Transform, transform}
use Rattle.wire_policies.specs.Policy.{head_size, Policy, group_sa, group_wide, policy}
use Rattle.wire_policies.proofs.SelectorLaws.{takes as selector-takes}
use Rattle.wire_policies.proofs.TransformLaws.{takes as transform-takes}
use Rattle.wire_view.specs.View.{on_all, shown_selector, shown_transform, shown_attribute, at_destination, at_transform, at_attribute}
use Rattle.wire_view.specs.View.{cursor_at, stay_step, stepped, selector_step, transform_step, policy_place, attribute_step, first_in}
use Rattle.wire_view.specs.View.{is_counted, step_at, is_nothing, before, shown_in, shown_items, items_left}
use Rattle.wire_view.specs.declared.items.Item.{Item}
use Rattle.wire_view.specs.declared.read.Step.{Step}
use Rattle.wire_view.specs.declared.View.{View}
use Rattle.wire_view.proofs.WalkLaws.{walk-shows, end_stays}

module _ (s : List ℕ) where
  -- the most steps from a cursor on that show something
  most : ℕ → ℕ
  most c = cond (eqb (c % 4) 0) (suc (length s)) (length s - c / 4)

  -- behind what was read, before the octets left
  most-behind : (n k : ℕ) → 0 < k → k ≤ 3 → most (cursor_at n k) ≡ length s - n
  unfolding most
  most-behind n k h l =
      let m : cursor_at n k % 4 ≡ k = omega (arith, l) in
      let d : cursor_at n k / 4 ≡ n = omega (arith, l) in
      (λ j. cond (eqb (m j) 0) (suc (length s)) (length s - d j))
      ∙ ap (λ (t : Bool). cond t (suc (length s)) (length s - n)) (ne_eqb k 0 (λ e. omega (arith, h, e)))

  most-first : (c : ℕ) → eqb (c % 4) 0 ≡ true → most c ≡ suc (length s)
  unfolding most
  most-first c e = ap (λ (t : Bool). cond t (suc (length s)) (length s - c / 4)) e

  most-later : (c : ℕ) → eqb (c % 4) 0 ≡ false → most c ≡ length s - c / 4
  unfolding most
  most-later c e = ap (λ (t : Bool). cond t (suc (length s)) (length s - c / 4)) e

  most-is : (c : ℕ) → most c ≤ suc (length s)
  unfolding most
  most-is c = by-test (λ (y : ℕ). y ≤ suc (length s)) (eqb (c % 4) 0) (λ t. omega arith) (λ t. omega arith)

  abbrev Fewer : ℕ → Step → Type 0
  Fewer c x = MatchOption x.item (Unit {0}) (λ (i : Item). most x.next < most c)

  module _ (c : ℕ) where
    reads : {A : Type 0} (show : A → Item) (comes : A → ℕ) → ((a : A) → (0 < comes a) × (comes a ≤ 3)) → (b : ℕ) → length s - b ≤ most c
        → (x : Reading A) → Takes (drop b s) x → Fewer c (stepped s c show comes x)
    reads show comes k b h (whole a rest) t =
        let f = took-fewer (drop b s) rest t in
        let m = most-behind (length s - length rest) (comes a) (k a).0 (k a).1 in
        omega (arith, m, f, length-drop b s, h)
    reads show comes k b h (broken o) t = tt

    selector-fewer : (comes b : ℕ) → 0 < comes → comes ≤ 3 → length s - b ≤ most c → Fewer c (selector_step s c comes b)
    selector-fewer comes b l m h =
        reads (shown_selector b) (λ (x : Selector). comes) (λ x. (l, m)) b h (selector 0 b (drop b s)) (selector-takes 0 b (drop b s))

    one_of : (t : Bool) → (0 < cond t at_transform at_attribute) × (cond t at_transform at_attribute ≤ 3)
    one_of true = (omega arith, omega arith)
    one_of false = (omega arith, omega arith)

    transform-fewer : (b : ℕ) → length s - b ≤ most c → Fewer c (transform_step s c b)
    transform-fewer b h =
        reads (λ (x : Linked Bool Transform). shown_transform x.item) (λ (x : Linked Bool Transform). cond x.next at_transform at_attribute)
        (λ x. one_of x.next) b h (transform 0 true b (drop b s)) (transform-takes 0 true b (drop b s))

    attribute-fewer : (b : ℕ) → length s - b ≤ most c → Fewer c (attribute_step s c b)
    attribute-fewer b h =
        reads (shown_attribute (policy_place s) b) (λ (a : Attribute). at_attribute) (λ a. (omega arith, omega arith)) b h
        (attribute (policy_place s) b (drop b s)) (attribute-takes (policy_place s) b (drop b s))

    first-fewer : length s ≤ most c → (x : Reading Policy) → Fewer c (on_all (stay_step c) (first_in s c) x)
    first-fewer h (whole (group_sa x) []) = selector-fewer at_destination (head_size s) (omega arith) (omega arith) (omega (arith, h))
    first-fewer h (whole (group_wide x) []) = attribute-fewer 4 (omega (arith, h))
    first-fewer h (whole x (n ∷ l)) = tt
    first-fewer h (broken o) = tt

    fewer : Fewer c (step_at s c)
    fewer =
        by-test (Fewer c) (is_counted s)
        (λ t. by-test (Fewer c) (eqb (c % 4) 0) (λ u. first-fewer (omega (arith, most-first c u)) (policy 0 s))
        (λ u.
        let h : length s - c / 4 ≤ most c = omega (arith, most-later c u) in
        by-test (Fewer c) (eqb (c % 4) at_destination) (λ v. selector-fewer at_transform (c / 4) (omega arith) (omega arith) h)
        (λ v. by-test (Fewer c) (eqb (c % 4) at_transform) (λ w. transform-fewer (c / 4) h) (λ w. attribute-fewer (c / 4) h))))
        (λ t. tt)

  -- more steps show nothing more
  one_more : (n c : ℕ) (l m : List Item) → ((i : Item) → most (step_at s c).next < most c → l ≡ m)
      → before (step_at s c).item l ≡ before (step_at s c).item m
  one_more n c l m h = go (step_at s c).item (fewer c)
    where
      go : (r : Option Item) → MatchOption r (Unit {0}) (λ (i : Item). most (step_at s c).next < most c) → before r l ≡ before r m
      go None f = refl
      go (Some x) f = ap (λ (y : List Item). x ∷ y) (h x f)

  enough : (n c : ℕ) → most c ≤ n → shown_in n s c ≡ shown_in (suc n) s c
  unfolding shown_in
  enough zero c h = go (step_at s c).item (fewer c)
    where
      go : (r : Option Item) → MatchOption r (Unit {0}) (λ (i : Item). most (step_at s c).next < most c) → [] ≡ before r []
      go None f = refl
      go (Some x) f = absurd (omega (arith, f, h))
  enough (suc n) c h =
      one_more n c (shown_in n s (step_at s c).next) (shown_in (suc n) s (step_at s c).next)
      (λ i f. enough n (step_at s c).next (omega (arith, f, h)))

  -- a step shows the first of what is left and leaves the others, or shows nothing where nothing is left
  yields : (c : ℕ) → MatchOption (step_at s c).item
      ((shown_in (suc (length s)) s c ≡ []) × (shown_in (suc (length s)) s (step_at s c).next ≡ []))
      (λ (i : Item). shown_in (suc (length s)) s c ≡ i ∷ shown_in (suc (length s)) s (step_at s c).next)
  unfolding shown_in
  yields c = go (step_at s c).item refl (fewer c)
    where
      go : (r : Option Item) → r ≡ (step_at s c).item → MatchOption r (Unit {0}) (λ (i : Item). most (step_at s c).next < most c)
          → MatchOption r ((shown_in (suc (length s)) s c ≡ []) × (shown_in (suc (length s)) s (step_at s c).next ≡ []))
          (λ (i : Item). shown_in (suc (length s)) s c ≡ i ∷ shown_in (suc (length s)) s (step_at s c).next)
      go None q f =
          let e : shown_in (suc (length s)) s c ≡ [] = ap (λ (r : Option Item). before r (shown_in (length s) s (step_at s c).next)) (sym q) in
          (e, ap (shown_in (suc (length s)) s) (end_stays s c (ap is_nothing (sym q))) ∙ e)
      go (Some x) q f =
          ap (λ (r : Option Item). before r (shown_in (length s) s (step_at s c).next)) (sym q)
          ∙ ap (λ (y : List Item). x ∷ y) (enough (length s) (step_at s c).next (omega (arith, f, most-is c)))

-- A NEW VIEW STILL SHOWS ALL that the policy holds, so a loop over it goes through each selector, transform and attribute once
all-taken : (n : ℕ) (l : List Item) → take n l ≡ take (suc n) l → take n l ≡ l
all-taken zero [] e = refl
all-taken zero (x ∷ l) e = let z : ◌≡◌ {A = ℕ} 0 1 = cc in absurd (omega arith)
all-taken (suc n) [] e = refl
all-taken (suc n) (x ∷ l) e = ap (λ (y : List Item). x ∷ y) (all-taken n l (ap (drop 1) e))

pub new-shows : (s : List ℕ) → shown_in (suc (length s)) s 0 ≡ shown_items s
new-shows s =
    let n = suc (length s) in
    walk-shows s n ∙ all-taken n (shown_items s) (sym (walk-shows s n) ∙ enough s n 0 (most-is s 0) ∙ walk-shows s (suc n))

-- so it is an iterator over all that it shows, which ends
pub yields-first : (v : View) (x : Step) → x ≡ step_at v.src.now v.at → YieldsFirst items_left v x.item (record { src = v.src; at = x.next })
yields-first v x e =
    subst (λ (y : Step). YieldsFirst items_left v y.item (record { src = v.src; at = y.next })) (sym e) (yields v.src.now v.at)

pub progress : {can : View → Type 0} → ((v : View) → can v) → (v w : View) (r : Option Item) → YieldsFirst items_left v r w
    → MakesProgress can (item_count items_left) v r w
progress can v w None y = record { on = λ f. search rules; keeps = search rules; rests = λ f. f }
progress can v w (Some x) y = record { on = λ f. (can w, f, omega (arith, ap length y)); keeps = can w; rests = λ f. search rules }
