use native.Mathlib.Omega.{arith}
use Prim.Native.Nat.{◌+◌}
use Rattle.octets.specs.Walk.{part}
use Rattle.octets.proofs.Walks.{part_length}
use Rattle.check_suites.specs.inner.Suites.{needs_of}
use Rattle.check_suites.proofs.FoldLaws.{inside, bounds, held, next, last}
use Rattle.check_suites.proofs.SumLaws.{joined, needs-first, joined-assoc, needs-one, needs-end}
use Rattle.check_suites.proofs.transforms_need.Goals as goal

pub encryption_octets-encryption-requires : goal.encryption_octets-encryption-requires
encryption_octets-encryption-requires c =
    let q = c.requires.1 in
    let s = c.args.t.now in
    let l = c.loop-encryption in
    let r = c.transform_parts-p in
    let k = l.invariant.3 q.0 q.1 q.2 in
    let i = inside needs_of joined s l.at _ q.0 q.1 k r.result r.ensures in
    let n = bounds needs_of joined s l.at _ q.0 q.1 k r.result r.ensures in (
      n.0,
      held needs_of joined s l.at _ q.0 q.1 k r.result r.ensures,
      omega (arith, n.1, part_length s (l.at + 8) (l.at + r.result.end) (omega (arith, i.0)) i.1),
    )

pub returns-then-not-p : goal.returns-then-not-p
returns-then-not-p c = λ m tail x.
    let s = c.args.t.now in
    let l = c.loop-encryption in
    let r = c.transform_parts-p in
    let e = c.encryption_octets-encryption in
    let w = c.wrapping_octets-wrapping in
    needs-end m _ (last needs_of joined s l.at _ m tail (l.invariant.3 m tail x) r.result r.ensures needs-first joined-assoc
    (record { encryption = e.result; wrapping = w.result })
    (needs-one _ e.result w.result e.ensures.0 (w.ensures.0 (part s (l.at + 8) (l.at + r.result.end)))) c.if-not-p.true)

pub loop-encryption-preserved : goal.loop-encryption-preserved
loop-encryption-preserved c =
    let q = c.requires.1 in
    let s = c.args.t.now in
    let l = c.loop-encryption in
    let r = c.transform_parts-p in
    let e = c.encryption_octets-encryption in
    let w = c.wrapping_octets-wrapping in
    let i = inside needs_of joined s l.at _ q.0 q.1 (l.invariant.3 q.0 q.1 q.2) r.result r.ensures in
    let size = part_length s (l.at + 8) (l.at + r.result.end) (omega (arith, i.0)) i.1 in (
      i.1,
      omega (arith, l.invariant.1, e.ensures.1, i.0, size),
      omega (arith, l.invariant.2, w.ensures.1, i.0),
      λ m tail x.
          next needs_of joined s l.at _ m tail (l.invariant.3 m tail x) r.result r.ensures needs-first joined-assoc
          (record { encryption = e.result; wrapping = w.result })
          (needs-one _ e.result w.result e.ensures.0 (w.ensures.0 (part s (l.at + 8) (l.at + r.result.end)))) c.if-not-p.false,
    )
