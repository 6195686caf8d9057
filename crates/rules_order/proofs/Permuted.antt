-- ANY PERMUTATION IS REACHED by exchanging neighbours (document 02, T-14, "in any other order"): two lists that have each element equally
-- often are one another in any order, and no other lists are.
use native.Mathlib.Omega.{arith}
use Prim.Native.Nat.{ℕ, ◌+◌, ◌<◌}
use mathlib.Core.Path.{◌≡◌, refl, ap, sym, ◌∙◌, subst}
use mathlib.Core.Bool.{Bool, true, false, cond}
use mathlib.Core.Logic.{◌↔◌}
use mathlib.Core.List.{List, [], ◌∷◌, ◌++◌}
use Rattle.octets.specs.Compare.{same}
use Rattle.octets.proofs.Order.{same-eq, eq-same}
use Rattle.lists.specs.Lists.{count}
use Rattle.rules_refusals.specs.Reordered.{AnyOrder, none, next, swapped, then}
use Rattle.rules_refusals.proofs.AnyOrder.{as_is, count-equal}
use Rattle.rules_refusals.proofs.FlatMap.{count-append}

-- ---- an element that stands in a list, with what is before it and behind it
pub record Parted {A : Type 0} (a : A) (m : List A) : Type 0 where
  pub front : List A
  pub back : List A
  pub is : front ++ a ∷ back ≡ m

later : {A : Type 0} (a : A) (x y : List A) → AnyOrder ◌≡◌ (a ∷ (x ++ y)) (x ++ a ∷ y)
later a [] y = as_is (λ b. refl) (a ∷ y)
later a (b ∷ x) y = then swapped (next refl (later a x y))

module _ {A : Type 0} (equal : A → A → Bool) (Equal-is : (a b : A) → equal a b ≡ true → a ≡ b) (is-equal : (a : A) → equal a a ≡ true) where
  parted : (a : A) (m : List A) → 0 < count (equal a) m → Parted a m
  unfolding count
  parted a [] h = absurd (omega arith)
  parted a (b ∷ m) h = go (equal a b) refl h (λ g. parted a m g)
    where
      go : (t : Bool) → equal a b ≡ t → 0 < cond t (count (equal a) m + 1) (count (equal a) m) → (0 < count (equal a) m → Parted a m) →
          Parted a (b ∷ m)
      go true e g again = record { front = []; back = m; is = ap (λ (c : A). c ∷ m) (Equal-is a b e) }
      go false e g again =
          let p = again g in record { front = b ∷ p.front; back = p.back; is = ap (λ (l : List A). b ∷ l) p.is }

  pub often-reached : (l m : List A) → ((a : A) → count (equal a) l ≡ count (equal a) m) → AnyOrder ◌≡◌ l m
  unfolding count
  often-reached [] [] h = none
  often-reached [] (b ∷ m) h =
      let e : 0 ≡ count (equal b) m + 1 =
      h b ∙ ap (λ (t : Bool). cond t (count (equal b) m + 1) (count (equal b) m)) (is-equal b) in
      absurd (omega arith)
  often-reached (a ∷ l) m h =
      let e : count (equal a) l + 1 ≡ count (equal a) m =
      ap (λ (t : Bool). cond t (count (equal a) l + 1) (count (equal a) l)) (sym (is-equal a)) ∙ h a in
      let p = parted a m (omega arith) in
      subst (AnyOrder ◌≡◌ (a ∷ l)) p.is
      (then (next refl (often-reached l (p.front ++ p.back) (λ c. rest c p))) (later a p.front p.back))
    where
      without : (b : Bool) (x y n : ℕ) → cond b (n + 1) n ≡ x + cond b (y + 1) y → n ≡ x + y
      without true x y n e = omega arith
      without false x y n e = e

      rest : (c : A) (p : Parted a m) → count (equal c) l ≡ count (equal c) (p.front ++ p.back)
      rest c p =
          without (equal c a) (count (equal c) p.front) (count (equal c) p.back) (count (equal c) l)
          (h c ∙ ap (count (equal c)) (sym p.is) ∙ count-append (equal c) p.front (a ∷ p.back))
          ∙ sym (count-append (equal c) p.front p.back)

-- of stretches: the same stretches, each as often
pub any-order-exactly : (l m : List (List ℕ)) → ((o : List ℕ) → count (same o) l ≡ count (same o) m) ↔ AnyOrder ◌≡◌ l m
any-order-exactly l m = (often-reached same same-eq (λ o. eq-same o o refl) l m, λ r o. count-equal (same o) r)
