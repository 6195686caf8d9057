use Rattle.std.proofs.Common.{List, ℕ, length, ◌-◌, ◌*◌, ◌≤◌}
use Rattle.wire_policies.specs.Transform.{Transform}
use Rattle.wire_policies.specs.Grammar.{Transforms}
use Rattle.check_suites.specs.inner.Suites.{needs_of}
use Rattle.check_suites.proofs.FoldLaws.{Folded}
use Rattle.check_suites.proofs.SumLaws.{joined}
use Rattle.check_suites.proofs.transforms_need.Given as goal

abbrev pub invariant-loop-encryption : goal.invariant-loop-encryption
invariant-loop-encryption it =
    (it.at ≤ length it.t) × (it.encryption ≤ 36 * it.at) × (it.wrapping ≤ 36 * it.at)
    × ((l : List Transform) (tail : List ℕ) → Transforms it.t l tail
    → Folded needs_of joined it.t it.at (record { encryption = it.encryption; wrapping = it.wrapping }) l tail)

abbrev pub decreases-loop-encryption : goal.decreases-loop-encryption
decreases-loop-encryption it = length it.t - it.at
