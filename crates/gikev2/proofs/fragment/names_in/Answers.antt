use Rattle.gikev2.proofs.FragmentLaws.{names-made}
use Rattle.gikev2.proofs.fragment.names_in.Goals as goal

-- `gikev2::fragment::names_in` meets its contract.

pub returns : goal.returns
returns c =
    names-made c.args.frame.now c.requires c.copy.ensures.1 c.be32_at.ensures c.be16_at.ensures.0
    c.be16_at-2.ensures.0
