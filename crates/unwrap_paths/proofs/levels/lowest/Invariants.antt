use Rattle.unwrap_paths.specs.inner.Code.{FindsLeast}
use Rattle.unwrap_paths.proofs.levels.lowest.Given as goal

abbrev pub invariant-loop-i : goal.invariant-loop-i
invariant-loop-i l = FindsLeast l.i-counter l.levels l.tried l.low
