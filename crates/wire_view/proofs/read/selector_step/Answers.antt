use Rattle.std.proofs.Common.{arith, length, ◌+◌, ◌<◌, ◌^◌, ◌∙◌}
use Rattle.octets.specs.Walk.{part}
use Rattle.octets.proofs.Walks.{part_length}
use Rattle.wire_view.proofs.StepLaws.{selector-past, selector-inside, selector-there, over-selector}
use Rattle.wire_view.proofs.read.selector_step.Goals as goal

pub returns-then-s-at : goal.returns-then-s-at
returns-then-s-at c = c.stay.ensures ∙ selector-past c.args.s.now c.args.c c.args.at c.args.comes c.if-s-at.true

pub selector_item-item-requires : goal.selector_item-item-requires
selector_item-item-requires c =
    let a = c.args in
    let s = a.s.now in
    let h = c.if-s-at.false in
    let e = a.at + c.in-Ok.e in
    let i = selector-inside s a.c a.at h a.comes _ c.in-Ok.ensures in
    let l : a.at + length (part s a.at e) < 2 ^ 64 = omega (arith, part_length s a.at e (omega arith) i, i, c.requires.0) in
    (l, selector-there s a.c a.at h a.comes _ c.in-Ok.ensures)

pub returns-in-Ok : goal.returns-in-Ok
returns-in-Ok c =
    let r = c.selector_item-item in
    let a = c.args in
    over-selector a.s.now a.c a.at c.if-s-at.false a.comes _ c.in-Ok.ensures r.result r.ensures c.cursor_at.result c.cursor_at.ensures
