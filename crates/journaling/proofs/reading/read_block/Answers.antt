use Rattle.std.proofs.Common.{◌≡◌, length, arith, rules}
use Rattle.journaling.proofs.BlockLaws.{within-start, within_more, far-end}
use Rattle.journaling.proofs.reading.read_block.Goals as goal

-- `journaling::reading::read_block` meets its contract.

pub loop-at-init : goal.loop-at-init
loop-at-init c = within-start c.requires

pub advance-a-requires : goal.advance-a-requires
advance-a-requires c = record {
  ready = c.loop-at.invariant.ready;
  from_in_bounds = c.loop-at-test.true;
}

pub loop-at-smaller : goal.loop-at-smaller
loop-at-smaller c = omega (arith, c.advance-a.ensures.from_lt_next)

pub loop-at-preserved : goal.loop-at-preserved
loop-at-preserved c =
    let l = c.loop-at in
    let k : length c.advance-a.new.line ≡ length l.line = search rules in
    let m : length c.advance-a.new.room ≡ length l.room = search rules in
    within_more l.invariant c.advance-a.ensures.ready_2 k m c.advance-a.ensures.by_index

pub shape_of-line : goal.shape_of-line
shape_of-line c = c.loop-at.invariant.line_same

pub shape_of-room : goal.shape_of-room
shape_of-room c = c.loop-at.invariant.room-same

pub returns : goal.returns
returns c =
    let l = c.loop-at in
    λ s n text f. far-end s n text l.x l.line l.at l.invariant.ready.keeps (omega arith) (l.invariant.far s n text f)
