use mathlib.Core.Path.{ap}
use lib.ListN.{replicate}
use Rattle.state_keys.specs.Limits.{limits}
use Rattle.state_sa.specs.declared.entry.Sa.{Sa}
use Rattle.state_table.specs.Table.{table_of}
use Rattle.state_table.proofs.Table.new.Goals as goal

pub returns : goal.returns
unfolding table_of
returns c = ap (λ (s : Sa). record { sas = replicate limits.sas s; count = 0 }) c.blank-none.ensures
