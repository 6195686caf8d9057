use Rattle.std.proofs.Common.{take, sym, arith, length-take-le}
use Rattle.member.proofs.ReplyLaws.{answered-place}
use Rattle.member.proofs.StandingLaws.{finished-none, finished-line}
use Rattle.member.proofs.running.finish.Goals as goal

-- `member::running::finish` meets its contract.

pub slice_bounds-answer_line-end : goal.slice_bounds-answer_line-end
slice_bounds-answer_line-end c =
    let r = c.args.r in
    sym (length-take-le r.len c.args.line.now c.requires.buffers_ready.begun)

pub returns : goal.returns
returns c =
    let r = c.args.r in
    let line = c.args.line.now in
    let out = c.answer_line.new.out in
    let e = c.answer_line.result in
    let p = c.answer_line.ensures in record {
      at_in_bounds = answered-place r (take r.len line) c.args.out.now out e r.keyed p c.requires.buffers_ready.place;
      by_index = finished-line r c.requires.buffers_ready.line-long (omega (arith, c.if-len-eq0.false)) c.requires.reply_fits c.requires.buffers_ready.place out e p;
    }

pub returns-then-len-eq0 : goal.returns-then-len-eq0
returns-then-len-eq0 c =
    record {
      at_in_bounds = c.requires.buffers_ready.place;
      by_index = finished-none c.args.r c.requires.buffers_ready.line-long (omega arith);
    }
