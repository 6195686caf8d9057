use Rattle.std.proofs.Common.{◌∙◌}
use Rattle.wire_attributes.proofs.Loops.{exit-is}
use Rattle.wire_policies.proofs.PolicyLaws.{body-goes, body-breaks, body-breaks-2}
use Rattle.wire_policies.proofs.body_layout.Goals as goal

pub returns-in_err-a : goal.returns-in_err-a
returns-in_err-a c =
    let a = c.args in
    exit-is _ _ c.from_residual.ensures.1 ∙ body-breaks a.holder a.place a.base a.s.now _ c.in_err-a.ensures

pub returns-in_err-d : goal.returns-in_err-d
returns-in_err-d c =
    let a = c.args in
    exit-is _ _ c.from_residual-in_err-d.ensures.1
    ∙ body-breaks-2 a.holder a.place a.base a.s.now _ c.in_ok-a.ensures _ c.in_err-d.ensures

pub returns : goal.returns
returns c =
    let a = c.args in
    body-goes a.holder a.place a.base a.s.now _ c.in_ok-a.ensures _ _ c.in_ok-d.ensures c.suite_layout.ensures
