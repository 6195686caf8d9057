-- Laws below the theorems on the rest of the member: sums to which one element gives, lists of one at most, octets that are all zero.
use native.Mathlib.Omega.{arith}
use Prim.Native.Nat.{ℕ, suc, ◌+◌, ◌≤◌}
use mathlib.Core.Path.{◌≡◌, refl, ap, ap₂, sym, ◌∙◌}
use mathlib.Core.Bool.{Bool, true, false, false≢true}
use mathlib.Core.Logic.{◌⊎◌, inl, inr, ⊎_elim}
use mathlib.Core.List.Memᴰ
use mathlib.Core.List.{List, [], ◌∷◌, Memᴰ}
use borrow.Author.Tests.{eqb-true, ltb-false}
use lib.Dec.{eqb}
use lib.ListN.{length, replicate}
use Rattle.lists.specs.Lists.{all, count}
use Rattle.lists.proofs.Cases.{bool_cases, and_parts}
use Rattle.state_sa.specs.declared.entry.Condition.{Condition}
use Rattle.state_sa.specs.declared.entry.Condition.TheVariants.{Live, Retiring}
use Rattle.rules_refusals.specs.Contents.{several}
use Rattle.rules_refusals.specs.Fitness.{sum}
use Rattle.rules_outcome.specs.After.{is_zero}
use Rattle.rules_outcome.proofs.RunsLists.{none_passes, count_none}
use Rattle.rules_outcome.proofs.RunsNeeds.{sum-none}

-- where one element at most passes a test, and those that do not give 0, the sum is what an element that passes gives
module _ {A : Type 0} (p : A → Bool) (w : A → ℕ) (others : (a : A) → p a ≡ false → w a ≡ 0) where
  pub sum-at : (l : List A) → count p l ≤ 1 → (a : A) → Memᴰ a l → p a ≡ true → sum w l ≡ w a
  unfolding sum count
  sum-at [] c a m t = absurd (Memᴰ.not-nil m)
  sum-at (b ∷ l) c a m t =
      bool_cases (p b)
      (λ g.
      let k : count p l + 1 ≤ 1 = rw g at c in
      let none = none_passes p l (count_none p l (omega arith)) in
      let z = sum-none w l (λ d n. others d (none d n)) in
      ⊎_elim (λ q. let e : w a ≡ w b = ap w q in omega arith) (λ n. absurd (false≢true (sym (none a n) ∙ t))) (Memᴰ.cases_cons m))
      (λ g.
      let k : count p l ≤ 1 = rw g at c in
      let z = others b g in
      ⊎_elim (λ q. absurd (false≢true (sym g ∙ ap p (sym q) ∙ t))) (λ n. let h = sum-at l k a n t in omega arith)
      (Memᴰ.cases_cons m))

-- a list of one at most
pub at_most_one : {A : Type 0} (l : List A) → several l ≡ false → (l ≡ []) ⊎ ((a : A) × (l ≡ a ∷ []))
at_most_one [] e = inl refl
at_most_one (a ∷ []) e = inr (a, refl)
at_most_one (a ∷ b ∷ l) e = let h = ltb-false 1 (suc (suc (length l))) e in absurd (omega arith)

pub of_none : (l : List ℕ) → l ≡ [] → sum (λ (n : ℕ). n) l ≡ 0
unfolding sum
of_none l e = ap (sum (λ (n : ℕ). n)) e

pub of_one : (l : List ℕ) (i : ℕ) → l ≡ i ∷ [] → sum (λ (n : ℕ). n) l ≡ i
unfolding sum
of_one l i e = let h = ap (sum (λ (n : ℕ). n)) e in h ∙ omega arith

-- four octets that are all zero
all-zero : (x : List ℕ) → is_zero x ≡ true → x ≡ replicate (length x) 0
unfolding all
all-zero [] e = refl
all-zero (o ∷ x) e =
    let p = and_parts (eqb o 0) (is_zero x) e in ap₂ (λ (a : ℕ) (l : List ℕ). a ∷ l) (eqb-true o 0 p.0) (all-zero x p.1)

pub four-zero : (x : List ℕ) → length x ≡ 4 → is_zero x ≡ true → x ≡ 0 ∷ 0 ∷ 0 ∷ 0 ∷ []
four-zero x n e = all-zero x e ∙ ap (λ (k : ℕ). replicate k 0) n

pub zero-four : (x : List ℕ) → x ≡ 0 ∷ 0 ∷ 0 ∷ 0 ∷ [] → is_zero x ≡ true
unfolding all
zero-four x e = ap is_zero e

-- ---- truth values, and the two conditions of an SA
pub live-or-retiring : (c : Condition) → (c ≡ Live) ⊎ ((start delay : ℕ) × (c ≡ Retiring start delay))
live-or-retiring Live = inl refl
live-or-retiring (Retiring s d) = inr (s, d, refl)
