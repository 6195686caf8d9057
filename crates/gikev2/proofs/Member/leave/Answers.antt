use Rattle.gikev2.specs.Member.{member_with, left_member}
use Rattle.gikev2.proofs.Member.leave.Goals as goal

pub returns : goal.returns
unfolding left_member member_with
returns c = c.with_profile.ensures
