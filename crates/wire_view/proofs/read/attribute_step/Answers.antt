use Rattle.std.proofs.Common.{◌∙◌}
use Rattle.wire_view.proofs.StepLaws.{attribute-past, over-attribute}
use Rattle.wire_view.proofs.read.attribute_step.Goals as goal

pub returns-then-s-at : goal.returns-then-s-at
returns-then-s-at c = c.stay.ensures ∙ attribute-past c.args.s.now c.args.c c.args.at c.if-s-at.true

pub returns-in-Ok : goal.returns-in-Ok
returns-in-Ok c =
    let r = c.attribute_item-item in
    let a = c.args in
    let p = c.place_of-place in
    over-attribute a.s.now a.c a.at c.if-s-at.false p.result p.ensures _ c.in-Ok.ensures r.result r.ensures c.cursor_at.result
    c.cursor_at.ensures
