use Rattle.gcm.specs.inner.Halves.{pair_number}
use Rattle.gcm.proofs.JoinLaws.{hash-joined}
use Rattle.gcm.proofs.hash.hash_all.Goals as goal

-- `gcm::hash::hash_all` meets its contract.

pub returns : goal.returns
unfolding pair_number
returns c = λ h m.
    let a = c.args in
    hash-joined h a.a.now a.c.now c.requires.a_len_bound.0 c.requires.a_len_bound.1 (c.absorb-x.ensures h m) (c.absorb-y.ensures h m)
    (c.hash_block.ensures h m)
