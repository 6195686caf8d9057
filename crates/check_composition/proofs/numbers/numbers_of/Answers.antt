use Rattle.std.proofs.Common.{◌≡◌, rules, ap, sym, subst, ◌∙◌}
use Rattle.check_composition.specs.inner.Numbers.{with_number}
use Rattle.check_composition.specs.declared.numbers.Numbers.{Numbers}
use Rattle.check_composition.proofs.NumberLaws.{no_numbers, NumberWalk, numbers-start, numbers-end, numbers-next}
use Rattle.check_composition.proofs.numbers.numbers_of.Goals as goal

pub loop-x-init : goal.loop-x-init
loop-x-init c =
    let a = c.args in
    let none : c.default-n.result ≡ no_numbers a.m = search rules in
    (c.requires.0, subst (λ (n : Numbers). NumberWalk a.m a.place a.a.now n 0) (sym none) (numbers-start a.m a.place a.a.now c.requires.1))

pub loop-x-preserved : goal.loop-x-preserved
loop-x-preserved c =
    let l = c.loop-x in
    let m = c.in-Some.ensures in
    let e = c.with_number-n.ensures in (
      l.invariant.0,
      numbers-next _ _ _ l.n l.at l.invariant.1 _ _ m.value _
          (e.0 ∙ ap (with_number c.args.m l.n) (c.attribute_value.ensures.result_value ∙ m.octets), e.1),
    )

pub returns : goal.returns
returns c =
    let l = c.loop-x in
    numbers-end _ _ _ l.n l.at l.invariant.1 c.in_default.ensures.0
