use mathlib.Core.Path.{refl}
use Rattle.text_rules.specs.Hex.{is_digit}
use Rattle.text_lines.proofs.is_digit.Goals as goal

-- `text_lines::is_digit` meets its contract: it is the definition.

pub returns : goal.returns
unfolding is_digit
returns c = refl
