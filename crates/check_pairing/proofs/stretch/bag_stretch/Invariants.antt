use Prim.Native.Nat.{◌-◌}
use lib.ListN.{length}
use Rattle.check_pairing.proofs.Places.{Going}
use Rattle.check_pairing.proofs.stretch.bag_stretch.Given as goal

abbrev pub invariant-loop-at : goal.invariant-loop-at
invariant-loop-at it = Going it.protocol it.spi it.kd it.at

abbrev pub decreases-loop-at : goal.decreases-loop-at
decreases-loop-at it = length it.kd - it.at
