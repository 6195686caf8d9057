use Rattle.std.proofs.Common.{length, arith}
use Rattle.fips197.proofs.Expansion.{sizes}
use Rattle.vectors.proofs.blocks.rounds_of.Goals as goal

-- `vectors::blocks::rounds_of` meets its contract.

pub overflow_add-result : goal.overflow_add-result
overflow_add-result c =
    let z = sizes (length c.args.key.now) c.requires in
    omega (arith, z.most)

pub returns : goal.returns
returns c =
    let z = sizes (length c.args.key.now) c.requires in
    omega (arith, z.most)
