use Rattle.gcm.specs.inner.Puts.{masked, PutsOctets}
use Rattle.gcm.proofs.stream.add_block.Given as goal

abbrev pub invariant-loop-i : goal.invariant-loop-i
invariant-loop-i l = PutsOctets (masked l.m l.c l.at) l.at l.i l.initial.room l.room
