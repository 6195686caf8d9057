use native.Mathlib.Omega.{arith}
use Rattle.octets.proofs.Numerals.{be16-is}
use Rattle.octets.proofs.numbers.be16_at.Goals as goal

pub returns : goal.returns
returns c =
    let e = be16-is c.args.s.now c.args.at in
    (omega arith, omega arith)
