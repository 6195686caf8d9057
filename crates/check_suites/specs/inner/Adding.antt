-- Counts of transforms added up one transform after the other.
use Rattle.std.specs.Prelude.{ℕ, ◌+◌, ◌≤◌}
use Rattle.check_suites.specs.declared.counts.SuiteCounts.{SuiteCounts}
pub use Rattle.wire_readers.specs.inner.Values.{once}

abbrev pub plus : SuiteCounts → SuiteCounts → SuiteCounts
plus x y = record {
  count = x.count + y.count;
  encryption = x.encryption + y.encryption;
  wrapping = x.wrapping + y.wrapping;
  sequence = x.sequence + y.sequence;
  authentication = x.authentication + y.authentication;
  doubled = x.doubled + y.doubled;
}

-- each count of `x` is at most `n`
pub record SuiteAtMost (n : ℕ) (x : SuiteCounts) : Type 0 where
  pub count : x.count ≤ n
  pub encryption : x.encryption ≤ n
  pub wrapping : x.wrapping ≤ n
  pub sequence : x.sequence ≤ n
  pub authentication : x.authentication ≤ n
  pub doubled : x.doubled ≤ n
