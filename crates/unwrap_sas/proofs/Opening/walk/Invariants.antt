use Rattle.std.proofs.Common.{◌-◌, length}
use Rattle.unwrap_sas.proofs.Along.{Along}
use Rattle.unwrap_sas.proofs.Opening.walk.Given as goal

abbrev pub invariant-loop-at : goal.invariant-loop-at
invariant-loop-at l =
    Along l.self.reads l.gsa l.self.kd.now l.self.schedule.words l.self.carried.now l.self.fresh.now l.self.ids.now l.self.block.now
    l.self.tick l.at l.missing l.sas l.count l.openers

abbrev pub decreases-loop-at : goal.decreases-loop-at
decreases-loop-at l = length l.gsa - l.at
