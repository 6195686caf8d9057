use Rattle.fragments.proofs.JoinLaws.{joined_is}
use Rattle.fragments.proofs.gather.join.Goals as goal

pub returns : goal.returns
returns c =
    let a = c.args in
    joined_is a.octets.now a.piece.now a.out.now a.size a.before c.requires.before_le_size.0 c.requires.before_le_size.1 c.copy.ensures.1
    c.copy-2.ensures.1 c.copy-3.ensures.1
