use mathlib.Core.Path.{◌∙◌}
use native.Mathlib.Omega.{arith}
use Rattle.aes.proofs.Enciphering.{its-rounds, last-is}
use Rattle.aes.proofs.last_word.Goals as goal

-- `aes::last_word` meets its contract.

pub overflow_mul-at : goal.overflow_mul-at
overflow_mul-at c = omega (arith, (its-rounds c.requires).1)

pub overflow_add-at : goal.overflow_add-at
overflow_add-at c = omega (arith, (its-rounds c.requires).1)

pub offset_bounds-w-at : goal.offset_bounds-w-at
offset_bounds-w-at c = omega (arith, (its-rounds c.requires).1)

pub bounds-w-at : goal.bounds-w-at
bounds-w-at c = omega (arith, (its-rounds c.requires).1)

pub returns : goal.returns
returns c = λ key x.
    let w = c.args.schedule.words in
    c.apart.ensures ∙ last-is key w x
