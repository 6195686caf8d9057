use Rattle.std.proofs.Common.{length, ◌-◌}
use Rattle.show.proofs.frame.put_payloads.Given as goal

abbrev pub decreases-loop-at : goal.decreases-loop-at
decreases-loop-at g l = length l.f.octets.now - l.at
