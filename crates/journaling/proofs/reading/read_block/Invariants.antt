use Rattle.std.proofs.Common.{◌-◌, length}
use Rattle.journaling.proofs.BlockLaws.{Within}
use Rattle.journaling.proofs.reading.read_block.Given as goal

abbrev pub invariant-loop-at : goal.invariant-loop-at
invariant-loop-at l = Within l.block l.initial.line l.initial.room l.initial.x l.line l.room l.x l.at

abbrev pub decreases-loop-at : goal.decreases-loop-at
decreases-loop-at l = length l.block - l.at
