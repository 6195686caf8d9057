use Rattle.std.proofs.Common.{◌-◌}
use Rattle.show.proofs.policy.put_policies.Given as goal

abbrev pub decreases-loop-at : goal.decreases-loop-at
decreases-loop-at g l = l.to - l.at
