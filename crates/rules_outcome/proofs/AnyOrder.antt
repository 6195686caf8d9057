-- LISTS AND FRAMES IN ANOTHER ORDER (document 02, T-14): what stands in one stands in the other, a sum is the same, SAs that enter a table
-- stand in the same places, and another order can be undone, so that each law of order is needed one way only.
use native.Mathlib.Omega.{arith}
use Prim.Native.Nat.{ℕ, ◌+◌}
use mathlib.Core.Path.{◌≡◌, refl, ap, ap₂, sym, ◌∙◌, subst}
use mathlib.Core.Logic.{⊎_elim}
use mathlib.Core.Bool.{Bool, true, false}
use mathlib.Core.List.{List, [], ◌∷◌}
use Rattle.lists.specs.Lists.{insert}
use Rattle.lists.proofs.Cases.{bool_cases}
use Rattle.state_sa.specs.Entry.{sa_before}
use Rattle.state_sa.specs.declared.entry.Sa.{Sa}
use Rattle.state_sa.proofs.Order.{before-trans, before-irrefl}
use Rattle.wire_bags.specs.Bag.{Bag, GroupKeyBag}
use Rattle.wire_frames.specs.Frame.{Frame, Payload, Content}
use Rattle.rules_refusals.specs.Fitness.{sum}
use Rattle.rules_refusals.specs.Reordered.{AnyOrder, none, next, swapped, then, SameOrder, no_item, item, GroupBagReordered}
use Rattle.rules_refusals.specs.Reordered.{BagReordered, group, member, ContentReordered, in-gsa, in-kd, in-delete, not-read}
use Rattle.rules_refusals.specs.Reordered.{PayloadReordered, Reordered}
use Rattle.rules_chains.specs.Chain.{In}
use Rattle.rules_chains.proofs.AnyOrder.{Among}
use Rattle.rules_outcome.specs.After.{insert_all}
use Rattle.rules_outcome.proofs.Members.{in_head, in_tail, in-cases, not-in-none}

-- ---- what stands in one list has its like in the other
module _ {A : Type 0} {R : A → A → Type 0} (same : (a : A) → R a a) (trans : (a b c : A) → R a b → R b c → R a c) where
  pub order_from : {l m : List A} → AnyOrder R l m → (a : A) → In a l → (b : A) × In b m × R a b
  order_from none a i = absurd (not-in-none a i)
  order_from (next {a = c} {b = d} {l = l} {m = m} r s) a i =
      ⊎_elim (λ e. (d, in_head d d m refl, subst (λ (x : A). R x d) (sym e) r))
      (λ j. let k = order_from s a j in (k.0, in_tail k.0 d m k.1, k.2)) (in-cases a c l i)
  order_from (swapped {a = c} {b = d} {l = l}) a i =
      ⊎_elim (λ e. (a, in_tail a d _ (in_head a c l e), same a))
      (λ j. ⊎_elim (λ e. (a, in_head a d _ e, same a)) (λ k. (a, in_tail a d _ (in_tail a c l k), same a)) (in-cases a d l j))
      (in-cases a c _ i)
  order_from (then r s) a i =
      let k = order_from r a i in
      let j = order_from s k.0 k.1 in (j.0, j.1, trans a k.0 j.0 k.2 j.2)

pub order-among : {A : Type 0} {l m : List A} → AnyOrder ◌≡◌ l m → Among l m
order-among {m = m} r a i =
    let k = order_from (λ b. refl) (λ x y z e f. e ∙ f) r a i in subst (λ b. In b m) (sym k.2) k.1

pub sum-order : {A : Type 0} (w : A → ℕ) {l m : List A} → AnyOrder ◌≡◌ l m → sum w l ≡ sum w m
unfolding sum
sum-order w none = refl
sum-order w (next e s) = ap₂ (λ (x y : ℕ). x + y) (ap w e) (sum-order w s)
sum-order w (swapped {a = a} {b = b} {l = l}) = let z : w a + (w b + sum w l) ≡ w b + (w a + sum w l) = omega arith in z
sum-order w (then r s) = sum-order w r ∙ sum-order w s

-- ---- two that enter a list in either order stand in the same places
module _ {A : Type 0} (before : A → A → Bool) (trans : (a b c : A) → before a b ≡ true → before b c ≡ true → before a c ≡ true)
    (irrefl : (a : A) → before a a ≡ false) (a b : A) (h : before a b ≡ true) where
  not_back : before b a ≡ false
  not_back =
      bool_cases (before b a)
      (λ e. let z = sym (trans a b a h e) ∙ irrefl a in let n : ◌≡◌ {A = ℕ} 0 1 = cc in absurd (omega arith)) (λ e. e)

  insert-exchanged : (l : List A) → insert before a (insert before b l) ≡ insert before b (insert before a l)
  unfolding insert
  insert-exchanged [] = rw (h, not_back)
  insert-exchanged (c ∷ l) =
      bool_cases (before b c) (λ e. rw (e, h, trans a b c h e, not_back) (rw e))
      (λ e.
      bool_cases (before a c) (λ d. rw (e, d, not_back) (rw e))
      (λ d. rw (e, d) (rw e (ap (λ (m : List A). c ∷ m) (insert-exchanged l)))))

pub entered-exchanged : (a b : Sa) (l : List Sa) → sa_before a b ≡ true → insert_all (a ∷ b ∷ []) l ≡ insert_all (b ∷ a ∷ []) l
unfolding insert_all
entered-exchanged a b l h = insert-exchanged sa_before before-trans before-irrefl a b h l

-- ---- undone
module _ {A : Type 0} {R : A → A → Type 0} (undo : (a b : A) → R a b → R b a) where
  pub order-back : {l m : List A} → AnyOrder R l m → AnyOrder R m l
  order-back none = none
  order-back (next {a = a} {b = b} r s) = next (undo a b r) (order-back s)
  order-back swapped = swapped
  order-back (then r s) = then (order-back s) (order-back r)

  same_back : {l m : List A} → SameOrder R l m → SameOrder R m l
  same_back no_item = no_item
  same_back (item {a = a} {b = b} r s) = item (undo a b r) (same_back s)

pub equal-back : {A : Type 0} {l m : List A} → AnyOrder ◌≡◌ l m → AnyOrder ◌≡◌ m l
equal-back r = order-back (λ a b e. sym e) r

bag-back : (a b : Bag) → BagReordered a b → BagReordered b a
bag-back _ _ (group r) =
    group (record { protocol = sym r.protocol; spi = sym r.spi; keys = equal-back r.keys; fresh = equal-back r.fresh })
bag-back _ _ (member r) = member (record { keys = equal-back r.keys })

content-back : (a b : Content) → ContentReordered a b → ContentReordered b a
content-back _ _ (in-gsa r) = in-gsa (equal-back r)
content-back _ _ (in-kd r) = in-kd (order-back bag-back r)
content-back _ _ (in-delete e) = in-delete (sym e)
content-back _ _ not-read = not-read

payload-back : (a b : Payload) → PayloadReordered a b → PayloadReordered b a
payload-back a b r = record { kind = sym r.kind; critical = sym r.critical; content = content-back _ _ r.content }

pub reordered-back : {f g : Frame} → Reordered f g → Reordered g f
reordered-back r = record { header = sym r.header; payloads = same_back payload-back r.payloads }

-- ---- and done twice
pub group-trans : (a b c : GroupKeyBag) → GroupBagReordered a b → GroupBagReordered b c → GroupBagReordered a c
group-trans a b c r s =
    record {
      protocol = r.protocol ∙ s.protocol;
      spi = r.spi ∙ s.spi;
      keys = then r.keys s.keys;
      fresh = then r.fresh s.fresh;
    }
