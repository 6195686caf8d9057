use Rattle.std.proofs.Common.{◌≡◌, length, inl, inr, arith, rules}
use Rattle.member.proofs.BlockLaws.{passing-start, passing-more, passing-end}
use Rattle.member.proofs.running.through.Goals as goal

-- `member::running::through` meets its contract. The invariant: what was passed of the block was read.

pub loop-at-init : goal.loop-at-init
loop-at-init c =
    passing-start c.args.block.now c.args.from c.args.r c.requires.buffers_ready c.requires.from_in_bounds

pub overflow_sub-out : goal.overflow_sub-out
overflow_sub-out c = c.loop-at.invariant.passes.ready.place

pub advance-p-requires : goal.advance-p-requires
advance-p-requires c =
    record {
      buffers_ready = c.loop-at.invariant.passes.ready;
      reply_fits = c.if-out-x-ge-REPLY_ROOM.true;
      from_in_bounds = c.loop-at-test.true;
    }

pub loop-at-smaller : goal.loop-at-smaller
loop-at-smaller c = omega (arith, c.advance-p.ensures.from_lt_next)

pub loop-at-preserved : goal.loop-at-preserved
loop-at-preserved c =
    let l = c.loop-at in
    let k : length c.advance-p.new.line ≡ length l.line = search rules in
    let m : length c.advance-p.new.room ≡ length l.room = search rules in
    let n : length c.advance-p.new.out ≡ length l.out = search rules in
    passing-more l.invariant c.advance-p.ensures.passes c.advance-p.ensures.from_lt_next k m n

pub shape_of-line-else-out-x-ge-REPLY_ROOM : goal.shape_of-line-else-out-x-ge-REPLY_ROOM
shape_of-line-else-out-x-ge-REPLY_ROOM c = c.loop-at.invariant.line_same

pub shape_of-room-else-out-x-ge-REPLY_ROOM : goal.shape_of-room-else-out-x-ge-REPLY_ROOM
shape_of-room-else-out-x-ge-REPLY_ROOM c = c.loop-at.invariant.room-same

pub shape_of-out-else-out-x-ge-REPLY_ROOM : goal.shape_of-out-else-out-x-ge-REPLY_ROOM
shape_of-out-else-out-x-ge-REPLY_ROOM c = c.loop-at.invariant.out-same

pub returns-else-out-x-ge-REPLY_ROOM : goal.returns-else-out-x-ge-REPLY_ROOM
returns-else-out-x-ge-REPLY_ROOM c =
    let l = c.loop-at.invariant in
    record {
      passes = l.passes;
      from_lt_next = (λ h k. passing-end l (inr (search rules)) h k);
    }

pub shape_of-line-after-loop-at : goal.shape_of-line-after-loop-at
shape_of-line-after-loop-at c = c.loop-at.invariant.line_same

pub shape_of-room-after-loop-at : goal.shape_of-room-after-loop-at
shape_of-room-after-loop-at c = c.loop-at.invariant.room-same

pub shape_of-out-after-loop-at : goal.shape_of-out-after-loop-at
shape_of-out-after-loop-at c = c.loop-at.invariant.out-same

pub returns-after-loop-at : goal.returns-after-loop-at
returns-after-loop-at c =
    let l = c.loop-at.invariant in
    record {
      passes = l.passes;
      from_lt_next = (λ h k. passing-end l (inl c.loop-at-test.false) h k);
    }
