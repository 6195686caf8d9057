use native.Mathlib.Omega.{arith}
use Rattle.check_payloads.proofs.DeleteLaws.{least, delete-is}
use Rattle.check_payloads.proofs.deletion.delete_parts.Goals as goal

pub bounds-o-0 : goal.bounds-o-0
bounds-o-0 c = omega (arith, least c.args.o.now c.requires)

pub bounds-o-1 : goal.bounds-o-1
bounds-o-1 c =
    omega (arith, least c.args.o.now c.requires)

pub be16_at-requires : goal.be16_at-requires
be16_at-requires c =
    omega (arith, least c.args.o.now c.requires)

pub returns : goal.returns
returns c =
    delete-is c.args.o.now c.requires _ _ _ c.wide.ensures.0 c.wide-2.ensures.0
    c.be16_at.ensures.0 c.be16_at.ensures.1
