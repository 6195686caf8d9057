use Rattle.unwrap_tree.proofs.Entering.{Entered}
use Rattle.unwrap_tree.proofs.held.held_of.Given as goal

abbrev pub invariant-loop-i : goal.invariant-loop-i
invariant-loop-i l = Entered l.entries l.cells l.i l.held
