use Rattle.gcm.specs.inner.Halves.{pair_number}
use Rattle.gcm.proofs.MultipleLaws.{MultiplesUpTo}
use Rattle.gcm.proofs.product.make_multiples.Given as goal

abbrev pub invariant-loop-d : goal.invariant-loop-d
invariant-loop-d l = MultiplesUpTo (pair_number l.y) l.d l.w
