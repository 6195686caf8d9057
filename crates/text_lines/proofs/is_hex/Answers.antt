use mathlib.Core.Path.{sym, ◌∙◌}
use Rattle.text_rules.proofs.HexLaws.{hex-even, hex-other}
use Rattle.text_lines.proofs.is_hex.Goals as goal

-- `text_lines::is_hex` meets its contract.

pub returns-then-are_digits : goal.returns-then-are_digits
returns-then-are_digits c = sym (hex-even c.args.text.now (sym c.if-are_digits.ensures))

pub returns-else-are_digits : goal.returns-else-are_digits
returns-else-are_digits c = c.if-are_digits.false ∙ sym (hex-other c.args.text.now (sym c.if-are_digits.ensures))
