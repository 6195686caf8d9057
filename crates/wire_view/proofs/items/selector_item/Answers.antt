use native.Mathlib.Omega.{arith}
use Rattle.wire_view.proofs.SelectorLaws.{selector-room, selector-is}
use Rattle.wire_view.proofs.items.selector_item.Goals as goal

pub bounds-s-1 : goal.bounds-s-1
bounds-s-1 c =
    omega (arith, selector-room c.args.s.now c.requires.1.0 c.requires.1.1)

pub be16_at-requires : goal.be16_at-requires
be16_at-requires c =
    omega (arith, selector-room c.args.s.now c.requires.1.0 c.requires.1.1)

pub be16_at-requires-2 : goal.be16_at-requires-2
be16_at-requires-2 c =
    omega (arith, selector-room c.args.s.now c.requires.1.0 c.requires.1.1)

pub overflow_add-result : goal.overflow_add-result
overflow_add-result c =
    record { fits = omega (arith, selector-room c.args.s.now c.requires.1.0 c.requires.1.1) }

pub returns : goal.returns
returns c =
    let a = c.args in
    λ x i. selector-is a.s.now x i a.base c.wide.result c.wide-2.result
    c.be16_at.result c.be16_at-2.result c.wide.ensures.0
    c.wide-2.ensures.0 c.be16_at.ensures.0 c.be16_at-2.ensures.0
