use Rattle.std.proofs.Common.{◌≡◌, ◌≤◌, ℕ, length}
use Rattle.octets.specs.Numbers.{oct}
use Rattle.unwrap_paths.specs.inner.Code.{mark_at, next_level}
use Rattle.unwrap_paths.proofs.Steps.{Partly}
use Rattle.state_keys.specs.Limits.{limits}
use Rattle.unwrap_paths.proofs.levels.spread.Given as goal

abbrev pub invariant-loop-i : goal.invariant-loop-i
invariant-loop-i l =
    (length l.out ≡ limits.wrap_keys) × (l.of ≤ limits.wrap_keys) ×
    Partly (λ (k : ℕ). next_level (oct l.initial.out k) (mark_at l.marks k) (oct l.kwks k) l.id l.of) l.initial.out l.out l.i
