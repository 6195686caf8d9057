use Prim.Native.Nat.{◌-◌}
use lib.ListN.{length}
use Rattle.check_pairing.specs.inner.Names.{is_named}
use Rattle.check_pairing.proofs.Counts.{Counting}
use Rattle.check_pairing.proofs.names.count_names.Given as goal

abbrev pub invariant-loop-at : goal.invariant-loop-at
invariant-loop-at it = Counting (is_named it.protocol it.spi) it.s it.n it.at

abbrev pub decreases-loop-at : goal.decreases-loop-at
decreases-loop-at it = length it.s - it.at
