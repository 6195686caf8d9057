use Rattle.std.proofs.Common.{rules, ap, ◌∙◌}
use Rattle.std.specs.Prelude.{Err}
use Rattle.wire_attributes.proofs.Loops.{exit-is, there, none-there}
use Rattle.wire_frames.proofs.HeaderLaws.{payload-is, payload-not}
use Rattle.wire_frames.proofs.PayloadLaws.{missing, good, inner-broken, bad}
use Rattle.wire_frames.proofs.payload_spot.Goals as goal

pub returns-then-is_empty : goal.returns-then-is_empty
returns-then-is_empty c = missing c.args.fresh c.args.kind c.args.base c.args.s.now (search rules)

pub returns-in_err-end : goal.returns-in_err-end
returns-in_err-end c =
    let a = c.args in
    let n = none-there c.read_payload.result (record { at = a.base }) c.in_err-end.field-0.0 c.in_err-end.ensures.value in
    exit-is _ _ c.from_residual.ensures.1 ∙ ap Err n.1
    ∙ bad a.fresh a.kind a.base a.s.now (search rules) (payload-not a.s.now (n.0 ∙ c.read_payload.ensures))

pub returns-in_err-body_layout : goal.returns-in_err-body_layout
returns-in_err-body_layout c =
    let a = c.args in
    let h = c.in_ok-end.field-0 in
    let p = payload-is a.s.now h (there c.read_payload.result _ h c.in_ok-end.ensures.value ∙ c.read_payload.ensures) in
    exit-is _ _ c.from_residual-in_err-body_layout.ensures.1
    ∙ inner-broken a.fresh a.kind a.base a.s.now (search rules) _ p.0 p.1 _ c.in_err-body_layout.ensures

pub returns : goal.returns
returns c =
    let a = c.args in
    let h = c.in_ok-end.field-0 in
    let p = payload-is a.s.now h (there c.read_payload.result _ h c.in_ok-end.ensures.value ∙ c.read_payload.ensures) in
    good a.fresh a.kind a.base a.s.now (search rules) _ p.0 p.1 c.in_ok-body_layout.ensures
