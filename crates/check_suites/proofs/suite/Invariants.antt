use Rattle.std.proofs.Common.{List, ℕ, length, ◌-◌, ◌≤◌}
use Rattle.wire_policies.specs.Transform.{Transform}
use Rattle.wire_policies.specs.Grammar.{Transforms}
use Rattle.check_suites.specs.inner.Suites.{suite_of}
use Rattle.check_suites.specs.inner.Adding.{plus, SuiteAtMost}
use Rattle.check_suites.proofs.FoldLaws.{Folded}
use Rattle.check_suites.proofs.suite.Given as goal

abbrev pub invariant-loop-s : goal.invariant-loop-s
invariant-loop-s it =
    (it.at ≤ length it.t) × SuiteAtMost it.at it.s
    × ((l : List Transform) (tail : List ℕ) → Transforms it.t l tail → Folded suite_of plus it.t it.at it.s l tail)

abbrev pub decreases-loop-s : goal.decreases-loop-s
decreases-loop-s it = length it.t - it.at
