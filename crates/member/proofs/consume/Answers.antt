use Rattle.std.proofs.Common.{◌≡◌, length, arith, rules}
use Rattle.member.proofs.BlockLaws.{consuming-start, consuming-more, consuming-ready, consuming-room, consuming-end}
use Rattle.member.proofs.consume.Goals as goal

-- `member::consume` meets its contract. The invariant: what was passed of the block was read.

pub loop-at-init : goal.loop-at-init
loop-at-init c =
    consuming-start c.args.block.now c.requires.buffers_ready c.requires.reply_fits

pub through-q-requires : goal.through-q-requires
through-q-requires c =
    let l = c.loop-at.invariant in
    record {
      buffers_ready = l.ready;
      from_in_bounds = l.inside;
    }

pub flush-x-requires : goal.flush-x-requires
flush-x-requires c =
    let l = c.loop-at in
    let n : length c.through-q.new.out ≡ length l.out = search rules in
    record {
      at_in_bounds = c.through-q.ensures.passes.ready.place;
      reply_room_in_bounds = omega (arith, l.invariant.space);
    }

pub loop-at-smaller : goal.loop-at-smaller
loop-at-smaller c =
    let p = c.through-q.ensures in
    let h = p.from_lt_next c.loop-at-test.true c.loop-at.invariant.space in
    omega (arith, p.passes.inside)

pub loop-at-preserved : goal.loop-at-preserved
loop-at-preserved c =
    let l = c.loop-at in
    let k : length c.through-q.new.line ≡ length l.line = search rules in
    let m : length c.through-q.new.room ≡ length l.room = search rules in
    let n : length c.through-q.new.out ≡ length l.out = search rules in
    consuming-more l.invariant c.through-q.ensures.passes c.flush-x.ensures k m n

pub emptied-requires : goal.emptied-requires
emptied-requires c = c.loop-at.invariant.ready.place

pub shape_of-line : goal.shape_of-line
shape_of-line c = c.loop-at.invariant.line_same

pub shape_of-room : goal.shape_of-room
shape_of-room c = c.loop-at.invariant.room-same

pub shape_of-out : goal.shape_of-out
shape_of-out c = c.loop-at.invariant.out-same

pub returns : goal.returns
returns c =
    let l = c.loop-at.invariant in
    let e = c.emptied.ensures in
    record {
      buffers_ready_2 = consuming-ready l e;
      reply_fits_2 = consuming-room l e;
      consumed = consuming-end l e c.loop-at-test.false;
    }
