use Prim.Native.Nat.{◌<◌, ◌≤◌}
use Rattle.octets.proofs.Fill.{StoredUpTo}
use Rattle.aes.specs.inner.Schedule.{ZeroWords}
use Rattle.aes.specs.inner.Inverse.{inverse_word_of}
use Rattle.aes.proofs.expansion.expanded_inverse.Given as goal

abbrev pub invariant-loop-j : goal.invariant-loop-j
invariant-loop-j l = (10 ≤ l.n) × (l.n < 15) × StoredUpTo 61 (inverse_word_of l.t l.w l.n) l.k l.j × ZeroWords l.k l.j 61
