use Rattle.std.proofs.Common.{◌≡◌, true, length, ◌-◌}
use Rattle.check_bagkeys.specs.inner.Facts.{carries_key}
use Rattle.check_bagkeys.proofs.KeyLaws.{KeyWalk}
use Rattle.check_bagkeys.proofs.wrapped.keys_of.Given as goal

abbrev pub invariant-loop-x : goal.invariant-loop-x
invariant-loop-x l = (carries_key l.m ≡ true) × KeyWalk l.m l.place l.a l.f l.at

abbrev pub decreases-loop-x : goal.decreases-loop-x
decreases-loop-x l = length l.a - l.at
