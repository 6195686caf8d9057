use Rattle.std.proofs.Common.{rules, arith, sym, ◌∙◌}
use Rattle.wire_frames.specs.Frame.{body}
use Rattle.wire_frames.proofs.PayloadLaws.{gsa-body, kd-body, delete-good, delete-bad}
use Rattle.wire_frames.proofs.body_layout.Goals as goal

pub returns-in-51 : goal.returns-in-51
returns-in-51 c = gsa-body c.args.fresh c.args.kind c.args.holder c.args.base c.args.s.now c.in-51.is _ c.are_policies.ensures

pub returns-in-52 : goal.returns-in-52
returns-in-52 c =
    let a = c.args in
    kd-body a.fresh a.kind a.holder a.base a.s.now (λ u. omega (arith, u, c.in-52.is)) c.in-52.is _ c.are_bags.ensures

pub returns-then-delete_fits : goal.returns-then-delete_fits
returns-then-delete_fits c =
    let a = c.args in
    delete-good a.fresh a.kind a.holder a.base a.s.now (λ u. omega (arith, u, c.in-42.is)) (λ u. omega (arith, u, c.in-42.is)) c.in-42.is
    (sym c.delete_fits.ensures ∙ c.if-delete_fits.true)

pub returns-else-delete_fits : goal.returns-else-delete_fits
returns-else-delete_fits c =
    let a = c.args in
    delete-bad a.fresh a.kind a.holder a.base a.s.now (λ u. omega (arith, u, c.in-42.is)) (λ u. omega (arith, u, c.in-42.is)) c.in-42.is
    (sym c.delete_fits.ensures ∙ c.if-delete_fits.false)

pub returns-in_default : goal.returns-in_default
unfolding body
returns-in_default c = search rules
