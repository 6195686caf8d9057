use Rattle.apply.proofs.RetiringLaws.{Unnamed}
use Rattle.apply.proofs.retiring.is_named.Given as goal

abbrev pub invariant-loop-i : goal.invariant-loop-i
invariant-loop-i l = Unnamed l.a l.o l.i-end l.i
