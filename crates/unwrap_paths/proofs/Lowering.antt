-- The level of a key: that of the lowest entry which gives it.
use native.Mathlib.Omega.{arith}
use Prim.Native.Nat.{ℕ, ◌≤◌, ◌<◌}
use mathlib.Core.List.{List}
use Rattle.lists.proofs.Cases.{lt-cases}
use Rattle.octets.specs.Numbers.{oct}
use Rattle.unwrap_paths.specs.inner.Code.{HasLevel}

-- it is at most what each level is
pub level-within : (n most : ℕ) (ids levels : List ℕ) (id level : ℕ) → ((i : ℕ) → i < n → oct levels i ≤ most) →
    HasLevel n ids levels id level → level ≤ most
level-within n most ids levels id level within is =
    lt-cases 0 level (λ g. let j = is.some g in let b = within j.0 j.1 in let e = j.3 in omega arith) (λ g. omega arith)
