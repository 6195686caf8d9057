use Rattle.std.proofs.Common.{List, ℕ, ◌-◌, ◌≤◌, length, drop}
use Rattle.wire_policies.specs.Transform.{Transform}
use Rattle.wire_policies.specs.Grammar.{Transforms}
use Rattle.wire_readers.proofs.body.transforms_end.Given as goal

abbrev pub invariant-loop-at : goal.invariant-loop-at
invariant-loop-at l =
    (l.at ≤ length l.s)
    × ((all : List Transform) (tail : List ℕ) → Transforms l.s all tail → (rest : List Transform) × Transforms (drop l.at l.s) rest tail)

abbrev pub decreases-loop-at : goal.decreases-loop-at
decreases-loop-at l = length l.s - l.at
