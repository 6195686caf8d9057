use native.Mathlib.Omega.{arith}
use mathlib.Core.Bool.{false}
use Rattle.check_payloads.proofs.FrameLaws.{long, short, starts-whole}
use Rattle.check_payloads.proofs.StepLaws.{reads-next, step}
use Rattle.check_payloads.proofs.PayloadLaws.{payloads-start, payload-room, payload-next, payloads-end}
use Rattle.check_payloads.proofs.payload_facts.Goals as goal

pub bounds-s-16 : goal.bounds-s-16
bounds-s-16 c = omega (arith, long c.requires.0 c.args.s.now c.requires.1)

pub loop-kind-init : goal.loop-kind-init
loop-kind-init c =
    let s = c.args.s.now in
    payloads-start s (starts-whole c.requires.0 s c.requires.1) (long c.requires.0 s c.requires.1) _ c.no_payloads-b.ensures _
    c.wide-kind.ensures.0

pub with_payload-b-requires : goal.with_payload-b-requires
with_payload-b-requires c =
    let s = c.args.s.now in
    let l = c.loop-kind in
    let p = c.payload_parts-p in
    let one = step false l.kind s l.at p.result l.invariant.inside (p.ensures false (reads-next false l.kind s l.at l.invariant.rest)) in
    payload-room s l.b l.kind l.at l.invariant _ one (short c.requires.0 s c.requires.1)

pub loop-kind-smaller : goal.loop-kind-smaller
loop-kind-smaller c =
    let s = c.args.s.now in
    let l = c.loop-kind in
    let p = c.payload_parts-p in
    let one = step false l.kind s l.at p.result l.invariant.inside (p.ensures false (reads-next false l.kind s l.at l.invariant.rest)) in
    omega (arith, one.some, one.inside)

pub loop-kind-preserved : goal.loop-kind-preserved
loop-kind-preserved c =
    let s = c.args.s.now in
    let l = c.loop-kind in
    let p = c.payload_parts-p in
    let one = step false l.kind s l.at p.result l.invariant.inside (p.ensures false (reads-next false l.kind s l.at l.invariant.rest)) in
    payload-next s l.b l.kind l.at l.invariant _ one c.loop-kind-test.true _ c.with_payload-b.ensures

pub returns : goal.returns
returns c = let l = c.loop-kind in payloads-end _ l.b l.kind l.at l.invariant c.loop-kind-test.false
