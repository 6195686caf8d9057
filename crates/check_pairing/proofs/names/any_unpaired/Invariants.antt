use Prim.Native.Nat.{◌-◌}
use lib.ListN.{length}
use Rattle.check_pairing.proofs.Walking.{Along}
use Rattle.check_pairing.proofs.Pairs.{NotYet}
use Rattle.check_pairing.proofs.names.any_unpaired.Given as goal

abbrev pub invariant-loop-at : goal.invariant-loop-at
invariant-loop-at it = Along it.s it.at (NotYet it.s it.t)

abbrev pub decreases-loop-at : goal.decreases-loop-at
decreases-loop-at it = length it.s - it.at
