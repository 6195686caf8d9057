use Rattle.std.proofs.Common.{ap, ◌∙◌, List, ℕ, drop, arith}
use Rattle.octets.specs.Walk.{be16}
use Rattle.check_suites.proofs.RowLaws.{one_more, no-more}
use Rattle.check_suites.proofs.rows.key_length_octets.Goals as goal

pub loop-x-preserved : goal.loop-x-preserved
loop-x-preserved c =
    let a = c.args in
    let l = c.loop-x in
    let f = c.in-Some.ensures.value in
    let q = c.be16_at.ensures.0 ∙ ap (λ (x : List ℕ). be16 x 0) (c.attribute_value-v.ensures.result_value ∙ c.in-Some.ensures.octets) in
    let m = one_more a.id a.place a.a.now l.at _ _ f c.be16_at.result q in (
      f.inside,
      f.rest,
      omega (arith, l.invariant.2, f.start, f.order, c.needed-total.ensures.1),
      omega (arith, l.invariant.3, m, c.needed-total.ensures.0),
    )

pub returns : goal.returns
returns c =
    let a = c.args in
    let l = c.loop-x in
    let e = no-more a.id a.place (drop l.at a.a.now) c.in_default.ensures.0 in
    (omega (arith, l.invariant.3, e), omega (arith, l.invariant.0, l.invariant.2))
