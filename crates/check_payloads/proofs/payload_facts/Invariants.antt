use Prim.Native.Nat.{◌-◌}
use lib.ListN.{length}
use Rattle.check_payloads.proofs.PayloadLaws.{PayloadWalk}
use Rattle.check_payloads.proofs.payload_facts.Given as goal

abbrev pub invariant-loop-kind : goal.invariant-loop-kind
invariant-loop-kind it = PayloadWalk it.s it.b it.kind it.at

abbrev pub decreases-loop-kind : goal.decreases-loop-kind
decreases-loop-kind it = length it.s - it.at
