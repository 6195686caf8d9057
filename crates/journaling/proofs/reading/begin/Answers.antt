use Rattle.journaling.proofs.BlockLaws.{begins}
use Rattle.journaling.proofs.reading.begin.Goals as goal

-- `journaling::reading::begin` meets its contract.

pub returns : goal.returns
returns c = begins c.args.profile c.with_profile-member.result c.with_profile-member.ensures
