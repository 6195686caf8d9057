-- Tests on lists, and lists with elements left out or inserted.
use Rattle.std.specs.Prelude.{ℕ, ◌+◌, Bool, true, false, cond, ◌&&◌, ◌||◌, List, [], ◌∷◌}

module _ {A : Type 0} where
  -- every element passes the test p
  unfoldable pub all : (A → Bool) → List A → Bool
  all p [] = true
  all p (a ∷ l) = p a && all p l

  -- at least one element passes
  unfoldable pub any : (A → Bool) → List A → Bool
  any p [] = false
  any p (a ∷ l) = p a || any p l

  -- how many elements pass
  unfoldable pub count : (A → Bool) → List A → ℕ
  count p [] = 0
  count p (a ∷ l) = cond (p a) (count p l + 1) (count p l)

  -- the elements that pass, in order
  unfoldable pub keep : (A → Bool) → List A → List A
  keep p [] = []
  keep p (a ∷ l) = cond (p a) (a ∷ keep p l) (keep p l)

  -- a comes before the first element, if there is one
  unfoldable pub heads : (A → A → Bool) → A → List A → Bool
  heads before a [] = true
  heads before a (b ∷ l) = before a b

  -- every element comes before the next
  unfoldable pub rising : (A → A → Bool) → List A → Bool
  rising before [] = true
  rising before (a ∷ l) = heads before a l && rising before l

  -- the rising list l with the element a inserted in its place
  unfoldable pub insert : (A → A → Bool) → A → List A → List A
  insert before a [] = a ∷ []
  insert before a (b ∷ l) = cond (before a b) (a ∷ b ∷ l) (b ∷ insert before a l)
