-- The key that a path starts from, of those that copies name: one of the lowest level, and of the lowest Key ID among these. Inner.
use Rattle.std.specs.Prelude.{ℕ, ◌≤◌, ◌<◌, ◌≡◌, ◌⊎◌, List}
use Rattle.octets.specs.Numbers.{oct}
use Rattle.unwrap_paths.specs.declared.nearest.Nearest.{Nearest}
use Rattle.unwrap_paths.specs.inner.Code.{HasLevel}

-- key `a` does not come behind the one with this Key ID and level
abbrev pub NotBehind : Nearest → ℕ → ℕ → Type 0
NotBehind a kwk level = (a.level < level) ⊎ ((a.level ≡ level) × (a.kwk ≤ kwk))

-- `r` is `a` or the one with this Key ID and level, and comes behind neither
pub record NearerOf (a : Nearest) (kwk level : ℕ) (r : Nearest) : Type 0 where
  pub one : (r ≡ a) ⊎ (r ≡ record { kwk = kwk; level = level })
  pub first : NotBehind r a.kwk a.level
  pub second : NotBehind r kwk level

-- key `a` does not come behind the one with the Key ID k
pub record Before (n : ℕ) (ids levels : List ℕ) (a : Nearest) (k : ℕ) : Type 0 where
  pub level : ℕ
  pub has : HasLevel n ids levels k level
  pub order : NotBehind a k level

-- key `a` is one of those with the first m of these Key IDs, and comes behind none of them
pub record NearestOf (n : ℕ) (ids levels : List ℕ) (m : ℕ) (kwks : List ℕ) (a : Nearest) : Type 0 where
  pub place : ℕ
  pub inside : place < m
  pub is : oct kwks place ≡ a.kwk
  pub has : HasLevel n ids levels a.kwk a.level
  pub before : (i : ℕ) → i < m → Before n ids levels a (oct kwks i)
