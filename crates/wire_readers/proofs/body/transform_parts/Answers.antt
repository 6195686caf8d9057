use native.Mathlib.Omega.{arith}
use Rattle.wire_readers.proofs.BodiesLaws.{room, transform-is}
use Rattle.wire_readers.proofs.body.transform_parts.Goals as goal

pub bounds-s-4 : goal.bounds-s-4
bounds-s-4 c =
    let p = c.requires in
    let f = room c.args.s.now p.0 p.1 p.2 in
    omega (arith, f.0, f.1)

pub be16_at-requires : goal.be16_at-requires
be16_at-requires c =
    let p = c.requires in
    let f = room c.args.s.now p.0 p.1 p.2 in
    omega (arith, f.0, f.1)

pub bounds-s-0 : goal.bounds-s-0
bounds-s-0 c =
    let p = c.requires in
    let f = room c.args.s.now p.0 p.1 p.2 in
    omega (arith, f.0, f.1)

pub be16_at-requires-2 : goal.be16_at-requires-2
be16_at-requires-2 c =
    let p = c.requires in
    let f = room c.args.s.now p.0 p.1 p.2 in
    omega (arith, f.0, f.1)

pub returns : goal.returns
returns c l tail x =
    transform-is c.args.s.now l tail x _ _ _ _ c.wide.ensures.0 c.be16_at.ensures.0
    c.wide-2.ensures.0 c.be16_at-2.ensures.0 c.wide.ensures.1 c.be16_at.ensures.1
    c.be16_at-2.ensures.1
