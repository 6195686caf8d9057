use Rattle.std.proofs.Common.{◌∙◌, arith}
use Rattle.wire_attributes.proofs.Loops.{exit-is, loop-goes, loop-breaks, loop-ends}
use Rattle.wire_policies.specs.Policy.{policy}
use Rattle.wire_policies.proofs.PolicyLaws.{takes}
use Rattle.wire_policies.proofs.are_policies.Goals as goal

pub returns-in_err-at : goal.returns-in_err-at
returns-in_err-at c =
    let a = c.args in
    let l = c.loop-at in
    exit-is _ _ c.from_residual.ensures.1
    ∙ loop-breaks policy takes a.base a.s.now l.at l.invariant.so_far c.loop-at-test.true _ c.in_err-at.ensures

pub loop-at-smaller : goal.loop-at-smaller
loop-at-smaller c =
    let a = c.args in
    let l = c.loop-at in
    let n = loop-goes policy takes a.base a.s.now l.at l.invariant.so_far c.loop-at-test.true c.in_ok-at.field-0 c.in_ok-at.ensures in
    omega (arith, n.0, n.1)

pub loop-at-preserved : goal.loop-at-preserved
loop-at-preserved c =
    let a = c.args in
    let l = c.loop-at in
    let n = loop-goes policy takes a.base a.s.now l.at l.invariant.so_far c.loop-at-test.true c.in_ok-at.field-0 c.in_ok-at.ensures in
    record { inside = n.1; so_far = n.2 }

pub returns : goal.returns
returns c =
    let a = c.args in
    let l = c.loop-at in
    loop-ends policy takes a.base a.s.now l.at l.invariant.so_far c.loop-at-test.false
