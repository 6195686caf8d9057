-- The rest of the first n of a list, as a loop over them leaves it; octets with blanks behind them.
use native.Mathlib.Omega.{arith}
use native.Mathlib.Numerals.{add-one}
use Prim.Native.Nat.{ℕ, zero, suc, ◌+◌, ◌-◌, ◌≤◌, ◌<◌}
use mathlib.Core.Path.{◌≡◌, ap, ◌∙◌}
use mathlib.Core.List.{List, [], ◌∷◌, ◌++◌}
use lib.ListN.{length, take, drop, get_or, replicate, drop_of_length-le}
use lib.Seq.{drop-cons, length-take-le, get_or-take, take-length}

module _ {A : Type 0} (l : List A) (n : ℕ) (h : n ≤ length l) where
  pub part-cons : (j : ℕ) (d : A) → j < n → drop j (take n l) ≡ get_or l j d ∷ drop (j + 1) (take n l)
  part-cons j d g =
      let k : j < length (take n l) = rw (length-take-le n l h) g in
      rw (drop-cons (take n l) j d k, get_or-take n l j d g, ← add-one)

  pub part_end : (j : ℕ) → n ≤ j → drop j (take n l) ≡ []
  part_end j g = let k : length (take n l) ≤ j = rw (length-take-le n l h) g in drop_of_length-le (take n l) k

pub drop-replicate : {A : Type 0} (n m : ℕ) (a : A) → drop n (replicate m a) ≡ replicate (m - n) a
drop-replicate zero m a = let e : m ≡ m - 0 = omega arith in ap (λ (k : ℕ). replicate k a) e
drop-replicate (suc n) zero a = let e : 0 ≡ 0 - suc n = omega arith in ap (λ (k : ℕ). replicate k a) e
drop-replicate (suc n) (suc m) a =
    let e : m - n ≡ suc m - suc n = omega arith in drop-replicate n m a ∙ ap (λ (k : ℕ). replicate k a) e

-- octets copied to the front of n blanks
pub copied : (n : ℕ) (x out : List ℕ) → out ≡ take (length x) x ++ drop (length x) (replicate n 0) → out ≡ x ++ replicate (n - length x) 0
copied n x out e = e ∙ rw (take-length x, drop-replicate {A = ℕ} (length x) n 0)
