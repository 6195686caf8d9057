use Rattle.std.proofs.Common.{◌-◌, length}
use Rattle.member.proofs.BlockLaws.{Passing}
use Rattle.member.proofs.running.through.Given as goal

abbrev pub invariant-loop-at : goal.invariant-loop-at
invariant-loop-at l = Passing l.block l.from l.initial.line l.initial.room l.initial.out l.initial.x l.line l.room l.out l.x l.at

abbrev pub decreases-loop-at : goal.decreases-loop-at
decreases-loop-at l = length l.block - l.at
