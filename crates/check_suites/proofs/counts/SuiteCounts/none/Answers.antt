use Rattle.std.proofs.Common.{rules}
use Rattle.lists.specs.Lists.{count}
use Rattle.check_suites.proofs.counts.SuiteCounts.none.Goals as goal

pub returns : goal.returns
unfolding count
returns c = search rules
