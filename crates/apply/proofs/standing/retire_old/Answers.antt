use Rattle.std.proofs.Common.{arith}
use Rattle.std.proofs.lemmas.Grind.{common_steps}
use Rattle.state_table.specs.Table.{retired_if}
use Rattle.apply.proofs.standing.retire_old.Goals as goal

pub returns-then-a-eq-REKEY : goal.returns-then-a-eq-REKEY
unfolding retired_if
returns-then-a-eq-REKEY c = grind (arith, common_steps)

pub returns-else-new : goal.returns-else-new
unfolding retired_if
returns-else-new c = grind (arith, common_steps)
