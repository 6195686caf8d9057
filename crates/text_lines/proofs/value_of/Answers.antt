use native.Mathlib.Omega.{arith}
use mathlib.Core.Path.{sym, ◌∙◌}
use Rattle.text_rules.proofs.HexLaws.{of-digit, digit_value, other-value}
use Rattle.text_lines.proofs.value_of.Goals as goal

-- `text_lines::value_of` meets its contract.

pub returns-then-is_digit : goal.returns-then-is_digit
returns-then-is_digit c =
    let a = c.args in
    let e = sym c.is_digit.ensures ∙ c.if-is_digit.true in
    let v = digit_value a.c e in
    (v, omega (arith, v, (of-digit a.c e).small))

pub returns : goal.returns
returns c =
    let a = c.args in
    (other-value a.c (sym c.is_digit.ensures ∙ c.if-is_digit.false), omega arith)
