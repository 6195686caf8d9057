use mathlib.Core.Path.{◌∙◌}
use Rattle.gcm.proofs.HashLaws.{last-is}
use Rattle.gcm.proofs.hash.last_block.Goals as goal

-- `gcm::hash::last_block` meets its contract.

pub returns : goal.returns
returns c =
    let s = c.args.s.now in
    c.block_at.ensures ∙ last-is s c.copy.ensures.1
