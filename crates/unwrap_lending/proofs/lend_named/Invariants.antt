use Rattle.unwrap_lending.specs.inner.Lending.{named_keys}
use Rattle.unwrap_lending.proofs.Filling.{Placed}
use Rattle.unwrap_lending.proofs.lend_named.Given as goal

abbrev pub invariant-loop-i : goal.invariant-loop-i
invariant-loop-i l = Placed (named_keys l.reached l.ids) l.block l.i
