-- What the standard library's chains and slices answer of a list is what the definitions of this crate say.
use Prim.Native.Nat.{ℕ, ◌+◌, ◌≤◌, ◌<◌, zero, suc}
use native.Mathlib.Omega.{arith}
use native.Mathlib.Numerals.{add-one}
use Rattle.std.specs.Prelude.{Bool, true, false, ◌&&◌, ◌||◌, List, [], ◌∷◌, ◌≡◌, length}
use Rattle.std.specs.Bool.{MatchBool}
use Rattle.std.specs.List.{list_any, list_all, IsAllAdjacentAnswer, AllAdjacentBelow}
use Rattle.std.proofs.Common.{refl, ap, subst, get_or}
use Rattle.lists.proofs.Cases.{bool_cases}
use Rattle.lists.specs.Lists.{all, any, rising, heads}

module _ {A : Type 0} (p : A → Bool) where
  pub any-from_list : (l : List A) → list_any p l ≡ any p l
  unfolding any
  any-from_list [] = refl
  any-from_list (a ∷ l) = ap (λ (b : Bool). p a || b) (any-from_list l)

  pub all-from_list : (l : List A) → list_all p l ≡ all p l
  unfolding all
  all-from_list [] = refl
  all-from_list (a ∷ l) = ap (λ (b : Bool). p a && b) (all-from_list l)

-- what `is_sorted_by` answers
module _ {A : Type 0} (before : A → A → Bool) where
  step : (a : A) (l : List A) (k : ℕ) (d : A) → get_or (a ∷ l) (suc k + 1) d ≡ get_or l (k + 1) d
  step a l k d = rw (add-one (suc k), add-one k)

  all_adjacent : (l : List A) → AllAdjacentBelow (λ x y. true ≡ before x y) l (length l) → true ≡ rising before l
  unfolding rising heads
  all_adjacent [] h = refl
  all_adjacent (a ∷ []) h = refl
  all_adjacent (a ∷ b ∷ l) h =
      let first : true ≡ before a b = h 0 a (omega arith) in
      let rest = all_adjacent (b ∷ l) (λ k d g. subst (λ (x : A). true ≡ before (get_or (b ∷ l) k d) x) (step a (b ∷ l) k d) (h (suc k) d (omega arith))) in
      rw (← first) rest

  not_adjacent : (l : List A) (k : ℕ) → k + 1 < length l → ((d : A) → false ≡ before (get_or l k d) (get_or l (k + 1) d)) →
      false ≡ rising before l
  unfolding rising heads
  not_adjacent [] k g h = absurd (omega arith)
  not_adjacent (a ∷ []) k g h = absurd (omega arith)
  not_adjacent (a ∷ b ∷ l) zero g h = let first : false ≡ before a b = h a in rw (← first)
  not_adjacent (a ∷ b ∷ l) (suc k) g h =
      let rest = not_adjacent (b ∷ l) k (omega arith) (λ d. subst (λ (x : A). false ≡ before (get_or (b ∷ l) k d) x) (step a (b ∷ l) k d) (h d)) in
      rw (← rest) (bool_cases (before a b) (λ e. rw e) (λ e. rw e))

  pub rising-from_answer : (l : List A) (r : Bool) → IsAllAdjacentAnswer (λ x y b. b ≡ before x y) l r → r ≡ rising before l
  rising-from_answer l true h = all_adjacent l h
  rising-from_answer l false h = not_adjacent l h.0 h.1 h.2
