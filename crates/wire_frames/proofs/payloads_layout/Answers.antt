use Rattle.std.proofs.Common.{◌∙◌, arith}
use Rattle.wire_attributes.proofs.Loops.{exit-is}
use Rattle.wire_frames.proofs.PayloadLaws.{inside, goes, tears, ends, left_over}
use Rattle.wire_frames.proofs.payloads_layout.Goals as goal

pub returns-in_err-e : goal.returns-in_err-e
returns-in_err-e c =
    let a = c.args in
    let l = c.loop-kind in
    exit-is _ _ c.from_residual.ensures.1
    ∙ tears a.fresh a.first a.base a.s.now l.kind l.at l.invariant.inside l.invariant.so_far c.loop-kind-test.true _ c.in_err-e.ensures

pub bounds-s-at : goal.bounds-s-at
bounds-s-at c =
    let a = c.args in
    let l = c.loop-kind in
    let n = inside a.fresh a.first a.base a.s.now l.kind l.at l.invariant.inside l.invariant.so_far c.in_ok-e.e c.in_ok-e.ensures in
    omega (arith, n.0, n.1)

pub loop-kind-smaller : goal.loop-kind-smaller
loop-kind-smaller c =
    let a = c.args in
    let l = c.loop-kind in
    let n = inside a.fresh a.first a.base a.s.now l.kind l.at l.invariant.inside l.invariant.so_far c.in_ok-e.e c.in_ok-e.ensures in
    omega (arith, n.0, n.1)

pub loop-kind-preserved : goal.loop-kind-preserved
loop-kind-preserved c =
    let a = c.args in
    let l = c.loop-kind in
    record {
      inside = (inside a.fresh a.first a.base a.s.now l.kind l.at l.invariant.inside l.invariant.so_far c.in_ok-e.e c.in_ok-e.ensures).1;
      so_far = goes a.fresh a.first a.base a.s.now l.kind l.at l.invariant.inside l.invariant.so_far c.loop-kind-test.true _ _
          c.in_ok-e.ensures c.wide-kind.ensures.0;
    }

pub returns-then-at-s : goal.returns-then-at-s
returns-then-at-s c =
    let a = c.args in
    let l = c.loop-kind in
    left_over a.fresh a.first a.base a.s.now l.kind l.at l.invariant.inside l.invariant.so_far c.loop-kind-test.false c.if-at-s.true

pub returns : goal.returns
returns c =
    let a = c.args in
    let l = c.loop-kind in
    ends a.fresh a.first a.base a.s.now l.kind l.at l.invariant.inside l.invariant.so_far c.loop-kind-test.false c.if-at-s.false
