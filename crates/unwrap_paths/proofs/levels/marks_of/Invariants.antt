use Rattle.std.proofs.Common.{◌≡◌, ◌<◌, ℕ, length, map}
use Rattle.unwrap_paths.specs.declared.levels.Mark.{Mark}
use Rattle.unwrap_paths.specs.inner.Code.{mark_at}
use Rattle.state_keys.specs.Limits.{limits}
use Rattle.unwrap_paths.proofs.levels.marks_of.Given as goal

abbrev pub invariant-loop-i : goal.invariant-loop-i
invariant-loop-i g l =
    (length l.out ≡ limits.wrap_keys) ×
    ((h : g.row.M.Denot → Mark) → ((x : g.row.M.Denot) (y : Mark) → g.M.Into.converts x y → y ≡ h x) → (i : ℕ) → i < l.i →
    mark_at l.out i ≡ mark_at (map h l.given) i)
