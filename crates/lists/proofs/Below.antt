-- A rule for each number below a bound, by one test that antt computes.
use mathlib.Core.Path.{◌≡◌, subst, sym}
use mathlib.Core.Bool.{Bool, true, false, ◌&&◌}
use mathlib.Core.List.{List, [], ◌∷◌}
use mathlib.Core.Logic.{◌⊎◌, inl, inr}
use Prim.Native.Nat.{ℕ, zero, suc, ◌<◌}
use native.Mathlib.Nat.{le_of_suc-le-suc, not-suc-le-zero, eq-or-lt_of_le}
use lib.Dec.{T, ltb, ltb→lt}
use lib.ListN.{get_or}

pub and_left : (a b : Bool) → T (a && b) → T a
and_left true b t = tt
and_left false b t = t

pub and_right : (a b : Bool) → T (a && b) → T b
and_right true b t = t
and_right false b t = absurd t

-- the test f passes at each number below n
abbrev pub all-below : ℕ → (ℕ → Bool) → Bool
all-below zero f = true
all-below (suc n) f = f n && all-below n f

pub below : (n : ℕ) (f : ℕ → Bool) → T (all-below n f) → (k : ℕ) → k < n → T (f k)
below zero f t k h = absurd (not-suc-le-zero h)
below (suc n) f t k h = go (λ l. below n f (and_right (f n) (all-below n f) t) k l) (eq-or-lt_of_le (le_of_suc-le-suc h))
  where
    go : (k < n → T (f k)) → (k ≡ n) ⊎ (k < n) → T (f k)
    go r (inl e) = subst (λ (m : ℕ). T (f m)) (sym e) (and_left (f n) (all-below n f) t)
    go r (inr l) = r l

-- each number of a list is below m
abbrev pub all-lt : ℕ → List ℕ → Bool
all-lt m [] = ltb 0 m
all-lt m (x ∷ xs) = ltb x m && all-lt m xs

pub elems-lt : (m : ℕ) (l : List ℕ) → T (all-lt m l) → (i : ℕ) → get_or l i 0 < m
elems-lt m [] t i = ltb→lt 0 m t
elems-lt m (x ∷ xs) t zero = ltb→lt x m (and_left (ltb x m) (all-lt m xs) t)
elems-lt m (x ∷ xs) t (suc i) = elems-lt m xs (and_right (ltb x m) (all-lt m xs) t) i
