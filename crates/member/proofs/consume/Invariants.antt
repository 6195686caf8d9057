use Rattle.std.proofs.Common.{◌-◌, length}
use Rattle.member.proofs.BlockLaws.{Consuming}
use Rattle.member.proofs.consume.Given as goal

abbrev pub invariant-loop-at : goal.invariant-loop-at
invariant-loop-at l = Consuming l.block l.initial.line l.initial.room l.initial.out l.initial.x l.line l.room l.out l.x l.at

abbrev pub decreases-loop-at : goal.decreases-loop-at
decreases-loop-at l = length l.block - l.at
