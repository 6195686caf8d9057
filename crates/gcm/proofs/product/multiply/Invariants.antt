use Rattle.gcm.specs.inner.Halves.{pair_number}
use Rattle.gcm.proofs.MultipleLaws.{Multiplying}
use Rattle.gcm.proofs.product.multiply.Given as goal

abbrev pub invariant-loop-n : goal.invariant-loop-n
invariant-loop-n l = Multiplying l.w (pair_number l.x) (pair_number l.z) l.n
