use Rattle.std.proofs.Common.{◌≡◌, ◌<◌, length, sym, refl, ◌∙◌, arith, length-take-le, rules}
use Rattle.member.proofs.StandingLaws.{ready-first}
use Rattle.member.proofs.RunLaws.{left_less, far-start, far-more, far-end}
use Rattle.member.proofs.run.Goals as goal

-- `member::run` meets its contract: what it hands over is what the octets that it took ask for.

pub begin-running-requires : goal.begin-running-requires
begin-running-requires c = tt

pub nothing-none-requires : goal.nothing-none-requires
nothing-none-requires c = tt

pub nothing-taken-requires : goal.nothing-taken-requires
nothing-taken-requires c = tt

pub loop-turns-init : goal.loop-turns-init
loop-turns-init c =
    let b = c.begin-running.ensures in (
      ready-first b c.requires.most_digits_in_bounds c.requires.most_octets_in_bounds,
      omega (arith, c.requires.reply_room_in_bounds, b.at),
      refl,
      refl,
      refl,
      refl,
      far-start b c.nothing-none.ensures c.nothing-taken.ensures (omega arith),
    )

pub next-b-requires : goal.next-b-requires
next-b-requires c =
    let l = c.loop-turns in
    let h : 0 < length l.block = omega (arith, l.invariant.5, c.requires.block_nonzero) in
    h

pub slice_bounds-consume-end : goal.slice_bounds-consume-end
slice_bounds-consume-end c = c.next-b.ensures.n_in_bounds

pub slice_bounds-consume-end-in-loop-turns : goal.slice_bounds-consume-end-in-loop-turns
slice_bounds-consume-end-in-loop-turns c =
    let f = c.next-b in
    sym (length-take-le f.result.n f.new.block f.ensures.n_in_bounds)

pub consume-p-requires : goal.consume-p-requires
consume-p-requires c =
    let l = c.loop-turns.invariant in
    record {
      buffers_ready = l.0;
      reply_fits = l.1;
    }

pub turns_left-turns-requires : goal.turns_left-turns-requires
turns_left-turns-requires c =
    c.loop-turns-test.true

pub loop-turns-smaller : goal.loop-turns-smaller
loop-turns-smaller c =
    left_less c.next-b.result.taken c.consume-p.result.handed c.loop-turns-test.true c.turns_left-turns.ensures

pub loop-turns-preserved : goal.loop-turns-preserved
loop-turns-preserved c =
    let l = c.loop-turns in
    let k : length c.consume-p.new.line ≡ length l.line = search rules in
    let m : length c.consume-p.new.room ≡ length l.room = search rules in
    let n : length c.consume-p.new.out ≡ length l.out = search rules in
    let o : length c.next-b.new.block ≡ length l.block = search rules in
    let i = l.invariant in
    let e = c.consume-p.ensures in (
      e.buffers_ready_2,
      e.reply_fits_2,
      k ∙ i.2,
      m ∙ i.3,
      n ∙ i.4,
      o ∙ i.5,
      far-more i.6 c.loop-turns-test.true c.next-b.ensures.taken_in e.consumed c.turns_left-turns.ensures,
    )

pub ended-handed-requires : goal.ended-handed-requires
ended-handed-requires c =
    let l = c.loop-turns.invariant in
    record {
      buffers_ready = l.0;
      reply_fits = l.1;
    }

pub shape_of-line : goal.shape_of-line
shape_of-line c = c.loop-turns.invariant.2

pub shape_of-block : goal.shape_of-block
shape_of-block c = c.loop-turns.invariant.5

pub returns : goal.returns
returns c =
    far-end c.loop-turns.invariant.6 c.ended-handed.ensures (omega (arith, c.loop-turns-test.false))
