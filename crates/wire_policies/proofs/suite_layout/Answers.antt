use Rattle.std.proofs.Common.{◌∙◌}
use Rattle.wire_attributes.proofs.Loops.{exit-is}
use Rattle.wire_policies.proofs.PolicyLaws.{suite-goes, suite-breaks}
use Rattle.wire_policies.proofs.suite_layout.Goals as goal

pub returns-in_err-e : goal.returns-in_err-e
returns-in_err-e c =
    let a = c.args in
    exit-is _ _ c.from_residual.ensures.1 ∙ suite-breaks a.holder a.place a.base a.s.now _ c.in_err-e.ensures

pub returns : goal.returns
returns c =
    let a = c.args in
    suite-goes a.holder a.place a.base a.s.now _ _ c.in_ok-e.ensures c.are_attributes.ensures
