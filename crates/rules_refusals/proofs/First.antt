-- The tests on a list by its first element, where a loop over the list stands.
use native.Mathlib.Omega.{arith}
use Prim.Native.Nat.{ℕ, ◌+◌, ◌≤◌}
use mathlib.Core.Path.{◌≡◌, ap, ◌∙◌}
use mathlib.Core.Logic.{◌⊎◌, inl, inr}
use mathlib.Core.List.{List, ◌∷◌}
use mathlib.Core.Bool.{Bool, true, false, cond, ◌||◌}
use Rattle.lists.specs.Lists.{any, count, keep}

module _ {A : Type 0} (p : A → Bool) (a : A) (l m : List A) (e : m ≡ a ∷ l) where
  pub any-yes : p a ≡ true → any p m ≡ true
  unfolding any
  any-yes t = ap (any p) e ∙ ap (λ (b : Bool). b || any p l) t

  pub any-no : p a ≡ false → any p m ≡ any p l
  unfolding any
  any-no t = ap (any p) e ∙ ap (λ (b : Bool). b || any p l) t

  pub count_yes : p a ≡ true → count p m ≡ count p l + 1
  unfolding count
  count_yes t = ap (count p) e ∙ ap (λ (b : Bool). cond b (count p l + 1) (count p l)) t

  pub count_no : p a ≡ false → count p m ≡ count p l
  unfolding count
  count_no t = ap (count p) e ∙ ap (λ (b : Bool). cond b (count p l + 1) (count p l)) t

  pub keep-yes : p a ≡ true → keep p m ≡ a ∷ keep p l
  unfolding keep
  keep-yes t = ap (keep p) e ∙ ap (λ (b : Bool). cond b (a ∷ keep p l) (keep p l)) t

  pub keep-no : p a ≡ false → keep p m ≡ keep p l
  unfolding keep
  keep-no t = ap (keep p) e ∙ ap (λ (b : Bool). cond b (a ∷ keep p l) (keep p l)) t

  -- a count after the test: one more, or the same
  pub count-step : (t : Bool) → p a ≡ t → (n k all : ℕ) → ((t ≡ true) × (k ≡ n + 1)) ⊎ ((t ≡ false) × (k ≡ n)) → n + count p m ≡ all
      → (k ≤ n + 1) × (k + count p l ≡ all)
  count-step t q n k all (inl (f, g)) h = let c = count_yes (q ∙ f) in (omega arith, omega arith)
  count-step t q n k all (inr (f, g)) h = let c = count_no (q ∙ f) in (omega arith, omega arith)
