-- The tests on lists at the rest of the first n of a list, where a loop over them stands.
use native.Mathlib.Omega.{arith}
use Prim.Native.Nat.{ℕ, ◌+◌, ◌≤◌, ◌<◌}
use mathlib.Core.Path.{◌≡◌, sym, ◌∙◌}
use mathlib.Core.Bool.{Bool, true, false, ◌&&◌}
use mathlib.Core.List.{List, [], ◌∷◌, map}
use lib.ListN.{length, take, drop, get_or, length-map}
use Rattle.lists.specs.Lists.{all, count, keep, heads, rising}
use Rattle.lists.proofs.Cases.{lt-cases}
use Rattle.lists.proofs.Parts.{part-cons, part_end}

-- a field that is an array of structs: the logic has the length of the list's image
pub length-of-map : {X Y : Type 0} (f : X → Y) (l : List X) (n : ℕ) → length (map f l) ≡ n → length l ≡ n
length-of-map f l n e = sym (length-map l f) ∙ e

module _ {A : Type 0} (p : A → Bool) (l : List A) (n : ℕ) (h : n ≤ length l) (j : ℕ) where
  pub all_yes : (d : A) → j < n → true ≡ p (get_or l j d) → all p (drop j (take n l)) ≡ all p (drop (j + 1) (take n l))
  unfolding all
  all_yes d g e = rw (part-cons l n h j d g, ← e)

  pub all-no : (d : A) → j < n → false ≡ p (get_or l j d) → all p (drop j (take n l)) ≡ false
  unfolding all
  all-no d g e = rw (part-cons l n h j d g, ← e)

  pub all_end : n ≤ j → all p (drop j (take n l)) ≡ true
  unfolding all
  all_end g = rw (part_end l n h j g)

  pub count_yes : (d : A) → j < n → true ≡ p (get_or l j d) → count p (drop j (take n l)) ≡ count p (drop (j + 1) (take n l)) + 1
  unfolding count
  count_yes d g e = rw (part-cons l n h j d g, ← e)

  pub count_no : (d : A) → j < n → false ≡ p (get_or l j d) → count p (drop j (take n l)) ≡ count p (drop (j + 1) (take n l))
  unfolding count
  count_no d g e = rw (part-cons l n h j d g, ← e)

  pub count-end : n ≤ j → count p (drop j (take n l)) ≡ 0
  unfolding count
  count-end g = rw (part_end l n h j g)

  pub keep-yes : (d : A) → j < n → true ≡ p (get_or l j d) → keep p (drop j (take n l)) ≡ get_or l j d ∷ keep p (drop (j + 1) (take n l))
  unfolding keep
  keep-yes d g e = rw (part-cons l n h j d g, ← e)

  pub keep-no : (d : A) → j < n → false ≡ p (get_or l j d) → keep p (drop j (take n l)) ≡ keep p (drop (j + 1) (take n l))
  unfolding keep
  keep-no d g e = rw (part-cons l n h j d g, ← e)

  pub keep-end : n ≤ j → keep p (drop j (take n l)) ≡ []
  unfolding keep
  keep-end g = rw (part_end l n h j g)

module _ {A : Type 0} (before : A → A → Bool) (l : List A) (n : ℕ) (h : n ≤ length l) (j : ℕ) (d : A) where
  pub rising-next : (b : Bool) → j + 1 < n → b ≡ before (get_or l j d) (get_or l (j + 1) d) →
      rising before (drop j (take n l)) ≡ (b && rising before (drop (j + 1) (take n l)))
  unfolding rising heads
  rising-next b g e = let f : j < n = omega arith in rw (e, part-cons l n h j d f, part-cons l n h (j + 1) d g)

  pub rising-end : n ≤ j + 1 → rising before (drop j (take n l)) ≡ true
  unfolding rising heads
  rising-end g = lt-cases j n (λ k. rw (part-cons l n h j d k, part_end l n h (j + 1) g)) (λ k. rw (part_end l n h j k))
