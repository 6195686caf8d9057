use Rattle.std.proofs.Common.{◌≡◌, length, sym, length-take-le, rules}
use Rattle.text_lines.proofs.ProgramLaws.{absorbed-held, absorbed-some}
use Rattle.member.proofs.StandingLaws.{passes-ended, passes_on}
use Rattle.member.proofs.running.advance.Goals as goal

-- `member::running::advance` meets its contract.

pub slice_bounds-answer_line-end-then-a : goal.slice_bounds-answer_line-end-then-a
slice_bounds-answer_line-end-then-a c =
    sym (length-take-le c.absorb-a.result.len c.absorb-a.new.line (absorbed-held c.absorb-a.ensures c.requires.buffers_ready.begun))

pub returns-then-a : goal.returns-then-a
returns-then-a c =
    let room = c.answer_line-running.new.room in
    let out = c.answer_line-running.new.out in
    let l : length room ≡ length c.args.room.now = search rules in
    let q = c.absorb-a.ensures in
    let e = c.answer_line-running.result in
    record {
      passes = passes-ended c.args.r c.requires.buffers_ready c.requires.from_in_bounds q c.requires.reply_fits c.if-a.true room out e l c.answer_line-running.ensures;
      from_lt_next = absorbed-some q c.requires.from_in_bounds;
    }

pub returns : goal.returns
returns c =
    let q = c.absorb-a.ensures in
    record {
      passes = passes_on c.args.r c.requires.buffers_ready c.requires.from_in_bounds q c.if-a.false;
      from_lt_next = absorbed-some q c.requires.from_in_bounds;
    }
