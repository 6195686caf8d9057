use Rattle.std.proofs.Common.{◌≡◌, true, length, ◌-◌}
use Rattle.check_composition.specs.inner.Numbers.{is_number}
use Rattle.check_composition.proofs.NumberLaws.{NumberWalk}
use Rattle.check_composition.proofs.numbers.numbers_of.Given as goal

abbrev pub invariant-loop-x : goal.invariant-loop-x
invariant-loop-x l = (is_number l.m ≡ true) × NumberWalk l.m l.place l.a l.n l.at

abbrev pub decreases-loop-x : goal.decreases-loop-x
decreases-loop-x l = length l.a - l.at
