use mathlib.Core.Path.{sym, ◌∙◌}
use Rattle.text_rules.proofs.HexLaws.{digits_more, digits-end}
use Rattle.text_lines.proofs.are_digits.Goals as goal

-- `text_lines::are_digits` meets its contract. The invariant: what is left decides, where all were digits so far.

pub loop-c-preserved : goal.loop-c-preserved
loop-c-preserved c =
    let l = c.loop-c in
    digits_more c.args.text.now l.c-index l.so_far _ c.loop-c-test.true c.is_digit-one.ensures l.invariant

pub returns : goal.returns
returns c = sym (c.loop-c.invariant ∙ digits-end c.args.text.now c.loop-c.c-index c.loop-c.so_far c.loop-c-test.false)
