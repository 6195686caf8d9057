use Rattle.std.proofs.Common.{◌≡◌, length}
use Rattle.member.specs.inner.Standing.{BuffersReady, ReplyFits}
use Rattle.member.proofs.RunLaws.{Far}
use Rattle.member.proofs.run.Given as goal

abbrev pub invariant-loop-turns : goal.invariant-loop-turns
invariant-loop-turns l =
    BuffersReady l.line l.room l.out l.p.running × ReplyFits l.out l.p.running × (length l.line ≡ length l.initial.line)
    × (length l.room ≡ length l.initial.room) × (length l.out ≡ length l.initial.out) × (length l.block ≡ length l.initial.block)
    × Far l.line l.out l.p l.taken l.turns

abbrev pub decreases-loop-turns : goal.decreases-loop-turns
decreases-loop-turns l = l.turns
