-- When an SA is due, in the words of the theorem `due-means` (proofs/Lifetimes.antt). No contract cites this file.
use Rattle.std.specs.Prelude.{◌≡◌, ℕ, ◌*◌, ◌≤◌}
use Rattle.state_sa.specs.declared.entry.Condition.TheVariants.{Retiring}
use Rattle.state_sa.specs.declared.entry.Lifetime.TheVariants.{Limited}
use Rattle.state_sa.specs.declared.entry.Sa.{Sa}
use Rattle.state_sa.specs.Clock.{elapsed}

-- s is retiring, and its delay has run at the tick now
pub record DelayRan (now : ℕ) (s : Sa) : Type 0 where
  pub start : ℕ
  pub delay : ℕ
  pub retires : s.condition ≡ Retiring start delay
  pub passed : 1000 * delay ≤ elapsed now start

-- s has a lifetime, and it has run at the tick now
pub record LifetimeRan (now : ℕ) (s : Sa) : Type 0 where
  pub start : ℕ
  pub seconds : ℕ
  pub limited : s.lifetime ≡ Limited start seconds
  pub passed : 1000 * seconds ≤ elapsed now start
