use native.Mathlib.Omega.{arith}
use mathlib.Core.Path.{sym, subst, ◌∙◌}
use Prim.Native.Nat.{◌+◌}
use Rattle.octets.proofs.Walks.{part_length}
use Rattle.check_suites.specs.declared.counts.SuiteCounts.{SuiteCounts}
use Rattle.check_suites.specs.inner.Suites.{suite_of}
use Rattle.check_suites.specs.inner.Adding.{plus, SuiteAtMost}
use Rattle.check_suites.proofs.FoldLaws.{Folded, inside, bounds, held, next, last}
use Rattle.check_suites.proofs.SumLaws.{suite-first, plus_assoc, at-most-none, at_most_one, at-most-plus, suite-starts, suite-ends}
use Rattle.check_suites.proofs.suite.Goals as goal

pub loop-s-init : goal.loop-s-init
loop-s-init c = (
  omega arith,
  subst (SuiteAtMost 0) (sym c.none-s.ensures) at-most-none,
  λ l tail x.
      let s = c.args.t.now in
      subst (λ (y : SuiteCounts). Folded suite_of plus s 0 y l tail) (sym c.none-s.ensures) (suite-starts s l tail x),
)

pub one_transform-requires : goal.one_transform-requires
one_transform-requires c =
    let q = c.requires in
    let s = c.args.t.now in
    let l = c.loop-s in
    let r = c.transform_parts-p in
    let k = l.invariant.2 q.0 q.1 q.2 in
    let i = inside suite_of plus s l.at l.s q.0 q.1 k r.result r.ensures in
    let n = bounds suite_of plus s l.at l.s q.0 q.1 k r.result r.ensures in (
      n.0,
      held suite_of plus s l.at l.s q.0 q.1 k r.result r.ensures,
      omega (arith, n.1, part_length s (l.at + 8) (l.at + r.result.end) (omega (arith, i.0)) i.1),
    )

pub plus-s-requires : goal.plus-s-requires
plus-s-requires c =
    let q = c.requires in
    let l = c.loop-s in
    let r = c.transform_parts-p in
    let i = inside suite_of plus c.args.t.now l.at l.s q.0 q.1 (l.invariant.2 q.0 q.1 q.2) r.result r.ensures in
    (l.at, omega (arith, i.0, i.1), l.invariant.1, subst (SuiteAtMost 1) (sym c.one_transform.ensures) (at_most_one _))

pub returns-then-not-p : goal.returns-then-not-p
returns-then-not-p c = λ m tail x.
    let l = c.loop-s in
    let r = c.transform_parts-p in
    let o = c.one_transform in
    c.plus-s.ensures
    ∙ suite-ends m _ (last suite_of plus c.args.t.now l.at l.s m tail (l.invariant.2 m tail x) r.result r.ensures suite-first plus_assoc
    o.result o.ensures c.if-not-p.true)

pub loop-s-preserved : goal.loop-s-preserved
loop-s-preserved c =
    let q = c.requires in
    let s = c.args.t.now in
    let l = c.loop-s in
    let r = c.transform_parts-p in
    let o = c.one_transform in
    let i = inside suite_of plus s l.at l.s q.0 q.1 (l.invariant.2 q.0 q.1 q.2) r.result r.ensures in (
      i.1,
      subst (SuiteAtMost (l.at + r.result.end)) (sym c.plus-s.ensures)
          (at-most-plus l.at 1 (l.at + r.result.end) l.s o.result l.invariant.1
          (subst (SuiteAtMost 1) (sym o.ensures) (at_most_one _)) (omega (arith, i.0))),
      λ m tail x.
          subst (λ (y : SuiteCounts). Folded suite_of plus s (l.at + r.result.end) y m tail) (sym c.plus-s.ensures)
          (next suite_of plus s l.at l.s m tail (l.invariant.2 m tail x) r.result r.ensures suite-first plus_assoc
          o.result o.ensures c.if-not-p.false),
    )
