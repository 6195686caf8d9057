use Rattle.std.proofs.Common.{rules, ap, sym, ◌∙◌}
use Rattle.wire_attributes.specs.Place.{in_transform}
use Rattle.wire_attributes.proofs.Loops.{exit-is}
use Rattle.wire_policies.proofs.TransformLaws.{missing, good, inner-broken, bad}
use Rattle.wire_policies.proofs.transforms.transform_spot.Goals as goal

pub returns-then-is_empty : goal.returns-then-is_empty
returns-then-is_empty c = missing c.args.holder c.args.base c.args.s.now (search rules)

pub returns-then-not-transform_fits : goal.returns-then-not-transform_fits
returns-then-not-transform_fits c =
    bad c.args.holder c.args.base c.args.s.now (search rules) (sym c.transform_fits.ensures ∙ c.if-not-transform_fits.true)

pub returns-in_err-are_attributes : goal.returns-in_err-are_attributes
returns-in_err-are_attributes c =
    let a = c.args in
    exit-is _ _ c.from_residual.ensures.1
    ∙ inner-broken a.holder a.base a.s.now (search rules) (sym c.transform_fits.ensures ∙ c.if-not-transform_fits.false) _ _
    c.be16_at-n.ensures.0 (c.in_transform-place.ensures ∙ ap in_transform c.wide.ensures.0) _ c.in_err-are_attributes.ensures

pub returns : goal.returns
returns c =
    let a = c.args in
    good a.holder a.base a.s.now (search rules) (sym c.transform_fits.ensures ∙ c.if-not-transform_fits.false) _ _
    c.be16_at-n.ensures.0 (c.in_transform-place.ensures ∙ ap in_transform c.wide.ensures.0) c.in_ok-are_attributes.ensures
