use Rattle.std.proofs.Common.{sym, ◌∙◌}
use Rattle.wire_attributes.proofs.Loops.{exit-is}
use Rattle.wire_policies.proofs.PolicyLaws.{good, inner-broken, bad}
use Rattle.wire_policies.proofs.policy_spot.Goals as goal

pub returns-then-not-head_fits : goal.returns-then-not-head_fits
returns-then-not-head_fits c = bad c.args.base c.args.s.now (sym c.head_fits.ensures ∙ c.if-not-head_fits.true)

pub returns-in_err-policy_layout : goal.returns-in_err-policy_layout
returns-in_err-policy_layout c =
    let a = c.args in
    exit-is _ _ c.from_residual.ensures.1
    ∙ inner-broken a.base a.s.now (sym c.head_fits.ensures ∙ c.if-not-head_fits.false) _ c.in_err-policy_layout.ensures

pub returns : goal.returns
returns c =
    let a = c.args in
    good a.base a.s.now (sym c.head_fits.ensures ∙ c.if-not-head_fits.false) _ c.be16_at.ensures.0 c.in_ok-policy_layout.ensures
