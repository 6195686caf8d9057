use native.Mathlib.Omega.{arith}
use Rattle.std.proofs.lemmas.Grind.{common_steps}
use Rattle.text_rules.specs.Input.{is_taken}
use Rattle.text_lines.proofs.is_taken.Goals as goal

-- `text_lines::is_taken` meets its contract.

pub returns-then-text-most : goal.returns-then-text-most
unfolding is_taken
returns-then-text-most c = grind (arith, common_steps)

pub returns-else-text-most : goal.returns-else-text-most
unfolding is_taken
returns-else-text-most c = grind (arith, common_steps)
