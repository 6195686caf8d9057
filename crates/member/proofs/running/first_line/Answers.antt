use Rattle.std.proofs.Common.{refl}
use Rattle.member.proofs.running.first_line.Goals as goal

-- `member::running::first_line` meets its contract.

pub returns : goal.returns
returns c out = record { key = c.key_line.ensures; member = refl; keyed = refl; len = refl; at = refl; nothing = refl }
