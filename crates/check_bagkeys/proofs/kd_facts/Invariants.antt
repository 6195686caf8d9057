use Prim.Native.Nat.{◌-◌}
use lib.ListN.{length}
use Rattle.check_bagkeys.proofs.PlaceLaws.{KdWalk}
use Rattle.check_bagkeys.proofs.kd_facts.Given as goal

abbrev pub invariant-loop-at : goal.invariant-loop-at
invariant-loop-at it = KdWalk it.fresh it.kd it.f it.found it.at

abbrev pub decreases-loop-at : goal.decreases-loop-at
decreases-loop-at it = length it.kd - it.at
