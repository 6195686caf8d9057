use Rattle.std.proofs.Common.{◌-◌, length}
use Rattle.unwrap_tree.proofs.SourceLaws.{PassedBy}
use Rattle.unwrap_tree.proofs.source.rekey_spi.Given as goal

abbrev pub invariant-loop-at : goal.invariant-loop-at
invariant-loop-at l = PassedBy l.gsa l.at

abbrev pub decreases-loop-at : goal.decreases-loop-at
decreases-loop-at l = length l.gsa - l.at
