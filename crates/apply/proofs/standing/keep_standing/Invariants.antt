use Rattle.state_keys.specs.Limits.{limits}
use Rattle.state_sa.specs.Entry.{blank_sa}
use Rattle.state_table.specs.Table.{stays, retired_if}
use Rattle.apply.specs.inner.Tables.{outdated}
use Rattle.apply.proofs.Renewed.{Renewed}
use Rattle.apply.proofs.standing.keep_standing.Given as goal

abbrev pub invariant-loop-a : goal.invariant-loop-a
invariant-loop-a l =
    Renewed limits.sas blank_sa (stays l.tick) (retired_if (outdated l.new) l.tick l.delay) l.a-items l.out l.k l.a-index
