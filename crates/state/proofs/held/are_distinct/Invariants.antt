use Rattle.std.proofs.Common.{◌≡◌, drop}
use Rattle.state.specs.Held.{distinct}
use Rattle.state.proofs.held.are_distinct.Given as goal

abbrev pub invariant-loop-i : goal.invariant-loop-i
invariant-loop-i l = distinct l.ids ≡ distinct (drop l.i l.ids)
