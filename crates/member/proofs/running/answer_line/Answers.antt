use Rattle.std.proofs.Common.{true, false}
use Rattle.member.proofs.ReplyLaws.{answered-as}
use Rattle.member.proofs.running.answer_line.Goals as goal

-- `member::running::answer_line` meets its contract.

pub returns-then-r : goal.returns-then-r
returns-then-r c =
    let a = c.args in
    answered-as a.r a.line.now a.out.now c.later_line.new.out c.later_line.result true c.if-r.true
    c.later_line.ensures

pub returns : goal.returns
returns c =
    let a = c.args in
    let out = a.out.now in
    answered-as a.r a.line.now out out c.first_line.result false c.if-r.false (c.first_line.ensures out)
