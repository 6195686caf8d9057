use Rattle.gcm.specs.inner.Halves.{pair_number}
use Rattle.gcm.proofs.HashLaws.{block-is}
use Rattle.gcm.proofs.hash.block_at.Goals as goal

-- `gcm::hash::block_at` meets its contract.

pub returns : goal.returns
unfolding pair_number
returns c =
    let a = c.args in
    block-is a.s.now a.at c.be64_at-hi.ensures c.be64_at-lo.ensures
