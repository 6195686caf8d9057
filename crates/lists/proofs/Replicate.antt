-- Parts of a list of one element repeated.
use mathlib.Core.Path.{◌≡◌, sym, ap, ◌∙◌}
use mathlib.Core.List.{◌++◌}
use Prim.Native.Nat.{ℕ, ◌+◌, ◌-◌, ◌≤◌}
use native.Mathlib.Omega.{arith}
use lib.ListN.{take, replicate, replicate-append-replicate, length-replicate}
use lib.Seq.{take_at}

module _ {A : Type 0} where
  split : (k n : ℕ) (a : A) → k ≤ n → replicate n a ≡ replicate k a ++ replicate (n - k) a
  split k n a h =
      ap (λ (m : ℕ). replicate m a) (let z : n ≡ k + (n - k) = omega arith in z) ∙ sym (replicate-append-replicate k (n - k) a)

  pub take-replicate : (k n : ℕ) (a : A) → k ≤ n → take k (replicate n a) ≡ replicate k a
  take-replicate k n a h =
      ap (take k) (split k n a h) ∙ take_at (replicate k a) (replicate (n - k) a) k (length-replicate k a)
