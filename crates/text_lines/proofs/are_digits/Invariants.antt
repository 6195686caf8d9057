use mathlib.Core.Path.{◌≡◌}
use mathlib.Core.Bool.{◌&&◌}
use lib.ListN.{drop}
use Rattle.text_rules.specs.Hex.{are_digits}
use Rattle.text_lines.proofs.are_digits.Given as goal

abbrev pub invariant-loop-c : goal.invariant-loop-c
invariant-loop-c l = are_digits l.text ≡ (l.so_far && are_digits (drop l.c-index l.text))
