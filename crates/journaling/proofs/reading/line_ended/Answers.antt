use Rattle.std.proofs.Common.{refl}
use Rattle.journaling.proofs.BlockLaws.{ended-taken}
use Rattle.journaling.proofs.reading.line_ended.Goals as goal

-- `journaling::reading::line_ended` meets its contract.

pub returns : goal.returns
returns c =
    let s = c.args in
    ended-taken s.p s.line.now s.next s.end c.in-Some.member _ c.in-Some.ensures refl
