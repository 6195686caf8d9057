use native.Mathlib.Omega.{arith}
use Rattle.octets.proofs.Numerals.{be32-is, be64-is}
use Rattle.octets.proofs.registers.be64_at.Goals as goal

pub returns : goal.returns
returns c =
    let d = be32-is c.args.s.now c.args.at in
    let e = be64-is c.args.s.now c.args.at in
    omega arith
