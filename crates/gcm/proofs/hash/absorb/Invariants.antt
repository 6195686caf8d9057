use Prim.Native.Nat.{◌*◌}
use Rattle.gcm.specs.inner.Halves.{pair_number}
use Rattle.gcm.proofs.HashLaws.{Absorbing}
use Rattle.gcm.proofs.hash.absorb.Given as goal

abbrev pub invariant-loop-i : goal.invariant-loop-i
invariant-loop-i l = Absorbing l.w l.s (pair_number l.initial.z) (pair_number l.z) (16 * l.i)
