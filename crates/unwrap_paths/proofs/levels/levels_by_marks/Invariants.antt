use Rattle.std.proofs.Common.{◌≡◌, length}
use Rattle.state_keys.specs.Limits.{limits}
use Rattle.unwrap_paths.specs.inner.Code.{is_tried}
use Rattle.unwrap_paths.proofs.Turns.{untried, Known, Bound}
use Rattle.unwrap_paths.proofs.levels.levels_by_marks.Given as goal

abbrev pub invariant-loop-j : goal.invariant-loop-j
invariant-loop-j l =
    (length l.levels ≡ limits.wrap_keys) × (length l.tried ≡ limits.wrap_keys) ×
    Bound l.n l.ids l.kwks l.marks l.levels l.tried × Known l.n l.ids l.kwks l.marks l.levels l.tried

abbrev pub decreases-loop-j : goal.decreases-loop-j
decreases-loop-j l = untried l.n (is_tried l.tried)
