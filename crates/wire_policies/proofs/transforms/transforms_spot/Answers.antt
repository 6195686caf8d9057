use Rattle.std.proofs.Common.{◌∙◌, arith}
use Rattle.wire_attributes.proofs.Loops.{exit-is}
use Rattle.wire_policies.proofs.TransformLaws.{inside, goes, ends, tears}
use Rattle.wire_policies.proofs.transforms.transforms_spot.Goals as goal

pub returns-in_err-e : goal.returns-in_err-e
returns-in_err-e c =
    let a = c.args in
    let l = c.loop-e in
    exit-is _ _ c.from_residual.ensures.1
    ∙ tears a.holder a.base a.s.now l.at l.invariant.inside l.invariant.so_far _ c.in_err-e.ensures

pub bounds-s-at : goal.bounds-s-at
bounds-s-at c =
    let a = c.args in
    let l = c.loop-e in
    let n = inside a.holder a.base a.s.now l.at l.invariant.inside l.invariant.so_far c.in_ok-e.e c.in_ok-e.ensures in
    omega (arith, n.0, n.1)

pub returns-then-m-ne-MORE_TRANSFORMS : goal.returns-then-m-ne-MORE_TRANSFORMS
returns-then-m-ne-MORE_TRANSFORMS c =
    let a = c.args in
    let l = c.loop-e in
    ends a.holder a.base a.s.now l.at l.invariant.inside l.invariant.so_far _ _ c.in_ok-e.ensures c.wide-m.ensures.0
    c.if-m-ne-MORE_TRANSFORMS.true

pub loop-e-smaller : goal.loop-e-smaller
loop-e-smaller c =
    let a = c.args in
    let l = c.loop-e in
    let n = inside a.holder a.base a.s.now l.at l.invariant.inside l.invariant.so_far c.in_ok-e.e c.in_ok-e.ensures in
    omega (arith, n.0, n.1)

pub loop-e-preserved : goal.loop-e-preserved
loop-e-preserved c =
    let a = c.args in
    let l = c.loop-e in
    record {
      inside = (inside a.holder a.base a.s.now l.at l.invariant.inside l.invariant.so_far c.in_ok-e.e c.in_ok-e.ensures).1;
      so_far = goes a.holder a.base a.s.now l.at l.invariant.inside l.invariant.so_far _ _ c.in_ok-e.ensures c.wide-m.ensures.0
          c.if-m-ne-MORE_TRANSFORMS.false;
    }
