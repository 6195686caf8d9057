use Prim.Native.Nat.{◌+◌, ◌*◌}
use Rattle.gcm.proofs.StreamLaws.{Streaming}
use Rattle.gcm.proofs.stream.gctr_in.Given as goal

abbrev pub invariant-loop-i : goal.invariant-loop-i
invariant-loop-i l = Streaming l.schedule l.nonce l.c l.initial.room l.room (16 * l.i) (2 + l.i)
