use mathlib.Core.Path.{sym}
use Rattle.text_rules.proofs.HexLaws.{decimal_digit, letter-digit}
use Rattle.text_lines.proofs.digit_of.Goals as goal

-- `text_lines::digit_of` meets its contract.

pub returns-then-v-lt10 : goal.returns-then-v-lt10
returns-then-v-lt10 c = sym (decimal_digit c.args.v c.if-v-lt10.true).back

pub returns : goal.returns
returns c = sym (letter-digit c.args.v c.if-v-lt10.false c.requires).back
