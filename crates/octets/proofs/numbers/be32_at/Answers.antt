use native.Mathlib.Omega.{arith}
use Rattle.octets.proofs.Numerals.{be32-is}
use Rattle.octets.proofs.numbers.be32_at.Goals as goal

pub returns : goal.returns
returns c =
    let e = be32-is c.args.s.now c.args.at in
    omega arith
