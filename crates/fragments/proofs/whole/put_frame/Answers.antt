use Rattle.fragments.proofs.JoinLaws.{framed_is}
use Rattle.fragments.proofs.whole.put_frame.Goals as goal

pub returns : goal.returns
returns c =
    let a = c.args in
    framed_is a.h.now a.octets.now a.room.now a.size c.requires.h_len.0 c.requires.h_len.1 c.requires.size_in_bounds.1 c.copy.ensures.1
    c.copy-2.ensures.1
