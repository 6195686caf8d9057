use Prim.Native.Nat.{◌-◌}
use lib.ListN.{length}
use Rattle.check_composition.proofs.FactLaws.{PolicyWalk}
use Rattle.check_composition.proofs.policy_facts.Given as goal

abbrev pub invariant-loop-at : goal.invariant-loop-at
invariant-loop-at it = PolicyWalk it.authentication it.gsa it.f it.at

abbrev pub decreases-loop-at : goal.decreases-loop-at
decreases-loop-at it = length it.gsa - it.at
