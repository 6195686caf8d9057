use Rattle.std.proofs.Common.{◌≡◌, length, sym, ◌∙◌, arith, length-take-le, rules}
use Rattle.text_lines.proofs.RoomLaws.{length-put}
use Rattle.text_lines.proofs.ProgramLaws.{absorbed-held, absorbed-some}
use Rattle.journaling.proofs.BlockLaws.{far-begun, far-ended, ended-further}
use Rattle.journaling.proofs.reading.advance.Goals as goal

-- `journaling::reading::advance` meets its contract.

pub slice_bounds-line_ended-end-then-a : goal.slice_bounds-line_ended-end-then-a
slice_bounds-line_ended-end-then-a c =
    sym (length-take-le c.absorb-a.result.len c.absorb-a.new.line (absorbed-held c.absorb-a.ensures c.requires.ready.begun))

pub returns-then-a : goal.returns-then-a
returns-then-a c =
    let q = c.absorb-a.ensures in
    let p = c.args.p in
    let h = c.requires.from_in_bounds in
    let k = c.requires.ready.keeps in
    let e = c.if-a.true in
    let r = c.line_ended.result in
    let d = c.line_ended.ensures in
    let l : length c.line_ended.new.room ≡ length c.args.room.now = search rules in record {
      ready_2 = record {
        keeps = length-put q.kept ∙ k;
        begun = omega (arith, d.len);
        room-long = omega (arith, c.requires.ready.room-long);
      };
      from_lt_next = ended-further p h q k e r d;
      by_index = (λ st n text f. far-ended p h q k e r d st n text f);
    }

pub returns : goal.returns
returns c =
    let q = c.absorb-a.ensures in
    let p = c.args.p in
    let h = c.requires.from_in_bounds in
    let k = c.requires.ready.keeps in record {
      ready_2 = record {
        keeps = length-put q.kept ∙ k;
        begun = absorbed-held q c.requires.ready.begun;
        room-long = c.requires.ready.room-long;
      };
      from_lt_next = absorbed-some q h;
      by_index = (λ st n text f. far-begun p h q k c.if-a.false st n text f);
    }
