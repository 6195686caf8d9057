use mathlib.Core.Path.{◌≡◌}
use lib.ListN.{length, take}
use Rattle.rfc5649.specs.Wrap.{register_octets}
use Rattle.keywrap.specs.Answers.{written}
use Rattle.keywrap.proofs.load.store.Given as goal

abbrev pub invariant-loop-i : goal.invariant-loop-i
invariant-loop-i l =
    (length l.room ≡ length l.initial.room) × (l.room ≡ written (register_octets (take l.i l.s)) l.initial.room)
