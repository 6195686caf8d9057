use Rattle.std.proofs.Common.{◌≡◌, ◌<◌, ℕ, length}
use Rattle.octets.specs.Numbers.{oct}
use Rattle.unwrap_paths.specs.inner.Code.{mark_at, first_level}
use Rattle.state_keys.specs.Limits.{limits}
use Rattle.unwrap_paths.proofs.levels.first_levels.Given as goal

abbrev pub invariant-loop-i : goal.invariant-loop-i
invariant-loop-i l =
    (length l.out ≡ limits.wrap_keys) × ((j : ℕ) → j < l.i → oct l.out j ≡ first_level (mark_at l.marks j))
