use Rattle.std.proofs.Common.{refl}
use Rattle.member.proofs.emptied.Goals as goal

-- `member::emptied` meets its contract.

pub returns : goal.returns
returns c =
    record { member = refl; key = refl; keyed = refl; len = refl; over = c.hand_over-written.ensures; at = refl }
