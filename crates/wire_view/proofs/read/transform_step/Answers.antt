use Rattle.std.proofs.Common.{arith, ap, ◌∙◌, ◌+◌}
use Rattle.wire_view.proofs.StepLaws.{transform-past, transform-inside, transform-there, over-transform, over_last}
use Rattle.wire_view.specs.View.{cursor_at}
use Rattle.wire_view.proofs.read.transform_step.Goals as goal
use Rattle.wire_view.proofs.read.transform_step.Goals.{then-wide-eq-MORE_TRANSFORMS, else-wide-eq-MORE_TRANSFORMS}

pub returns-then-s-at : goal.returns-then-s-at
returns-then-s-at c = c.stay.ensures ∙ transform-past c.args.s.now c.args.c c.args.at c.if-s-at.true

pub transform_item-item-requires : goal.transform_item-item-requires
transform_item-item-requires c =
    let a = c.args in
    transform-there a.s.now a.c a.at c.if-s-at.false _ c.in-Ok.ensures

pub bounds-s-at : goal.bounds-s-at
bounds-s-at c =
    let a = c.args in
    let i = transform-inside a.s.now a.c a.at c.if-s-at.false _ c.in-Ok.ensures in
    omega (arith, i.0, i.1)

pub returns-after-wide-eq-MORE_TRANSFORMS : goal.returns-after-wide-eq-MORE_TRANSFORMS
returns-after-wide-eq-MORE_TRANSFORMS c =
    let a = c.args in
    let r = c.transform_item-item in
    let m = c.wide in
    let n = c.cursor_at in
    let e = c.in-Ok.ensures in
    let h = c.if-s-at.false in
    elim c.if-wide-eq-MORE_TRANSFORMS.branch [
      | then-wide-eq-MORE_TRANSFORMS w ↦
          over-transform a.s.now a.c a.at h _ e r.result r.ensures m.result m.ensures.0 w.if-wide-eq-MORE_TRANSFORMS.true n.result
          (n.ensures ∙ ap (cursor_at (a.at + c.in-Ok.e)) w.then-is)
      | else-wide-eq-MORE_TRANSFORMS w ↦
          over_last a.s.now a.c a.at h _ e r.result r.ensures m.result m.ensures.0 w.if-wide-eq-MORE_TRANSFORMS.false n.result
          (n.ensures ∙ ap (cursor_at (a.at + c.in-Ok.e)) w.then-is)
    ]
