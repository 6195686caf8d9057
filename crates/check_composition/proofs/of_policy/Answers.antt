use native.Mathlib.Omega.{arith}
use mathlib.Core.Path.{refl}
use Rattle.check_composition.proofs.SaLaws.{wide-one, sa-one}
use Rattle.check_composition.proofs.of_policy.Goals as goal

pub numbers_of-requires : goal.numbers_of-requires
numbers_of-requires c = (refl, c.requires.wide c.if-first-eq-NO_PROTOCOL.true)

pub of_wide-requires : goal.of_wide-requires
of_wide-requires c = omega (arith, c.numbers_of.ensures.1)

pub returns-then-first-eq-NO_PROTOCOL : goal.returns-then-first-eq-NO_PROTOCOL
returns-then-first-eq-NO_PROTOCOL c =
    let a = c.args in
    wide-one a.authentication a.first a.o.now _ c.if-first-eq-NO_PROTOCOL.true c.numbers_of.result c.numbers_of.ensures.0
    c.of_wide.ensures

pub of_sa-requires : goal.of_sa-requires
of_sa-requires c = c.requires.sa c.if-first-eq-NO_PROTOCOL.false

pub returns : goal.returns
returns c =
    let z = c.if-first-eq-NO_PROTOCOL.false in
    let h = c.requires.sa z in
    sa-one c.args.authentication c.args.first c.args.o.now _ z h.0 h.1 c.of_sa.ensures
