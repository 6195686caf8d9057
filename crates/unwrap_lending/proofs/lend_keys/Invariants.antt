use Rattle.std.proofs.Common.{◌≡◌, length}
use Rattle.state_keys.specs.Limits.{limits}
use Rattle.unwrap_lending.proofs.Filling.{LentUpTo}
use Rattle.unwrap_lending.proofs.lend_keys.Given as goal

abbrev pub invariant-loop-i : goal.invariant-loop-i
invariant-loop-i l = (length l.fn.held.keys ≡ limits.held_keys) × LentUpTo l.fn.held.keys l.ids l.block l.i
