use Rattle.std.proofs.Common.{sym, length-take-le}
use Rattle.text_lines.proofs.CallLaws.{asked-inside}
use Rattle.member.proofs.ReplyLaws.{later-bad, later-frame}
use Rattle.member.proofs.running.later_line.Goals as goal

-- `member::running::later_line` meets its contract.

pub slice_bounds-receive_frame-end : goal.slice_bounds-receive_frame-end
slice_bounds-receive_frame-end c =
    asked-inside c.args.line.now c.in-Some.ensures c.requires.most_octets_in_bounds

pub slice_bounds-receive_frame-end-in-Some : goal.slice_bounds-receive_frame-end-in-Some
slice_bounds-receive_frame-end-in-Some c =
    sym (length-take-le c.in-Some.asked.len c.later_line.new.room
    (asked-inside c.args.line.now c.in-Some.ensures c.requires.most_octets_in_bounds))

pub returns-in-None : goal.returns-in-None
returns-in-None c = later-bad c.args.r c.args.line.now c.in-None.ensures c.put_bad-at.ensures

pub returns-in-Some : goal.returns-in-Some
returns-in-Some c =
    let x = c.receive_frame in
    later-frame c.args.r c.args.line.now x.result c.in-Some.ensures c.requires.most_octets_in_bounds x.ensures
