use native.Mathlib.Omega.{arith}
use Rattle.octets.proofs.Numerals.{sized-is}
use Rattle.wire_readers.proofs.PayloadsLaws.{fits-first, payload-is}
use Rattle.wire_readers.proofs.payload.payload_parts.Goals as goal

pub bounds-s-0 : goal.bounds-s-0
bounds-s-0 c =
    let f = sized-is c.args.s.now 4 (fits-first c.requires.1.0 c.args.kind
    c.args.s.now
    c.requires.0 c.requires.1.1) in
    omega (arith, f.0, f.1)

pub bounds-s-1 : goal.bounds-s-1
bounds-s-1 c =
    let f = sized-is c.args.s.now 4
    (fits-first c.requires.1.0 c.args.kind c.args.s.now c.requires.0
    c.requires.1.1) in
    omega (arith, f.0, f.1)

pub be16_at-requires : goal.be16_at-requires
be16_at-requires c =
    let f = sized-is c.args.s.now 4
    (fits-first c.requires.1.0
    c.args.kind c.args.s.now
    c.requires.0 c.requires.1.1) in
    omega (arith, f.0, f.1)

pub returns : goal.returns
returns c = λ fresh e.
    let a = c.args in
    payload-is fresh a.kind a.s.now c.requires.0 e _ _ _
    c.wide.ensures.0 c.wide-2.ensures.0 c.be16_at.ensures.0
