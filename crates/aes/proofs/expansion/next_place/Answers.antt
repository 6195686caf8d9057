use native.Mathlib.Omega.{arith}
use Rattle.aes.proofs.Growing.{same-group, next-group}
use Rattle.aes.proofs.expansion.next_place.Goals as goal

-- `aes::expansion::next_place` meets its contract.

pub returns-then-word-nk : goal.returns-then-word-nk
returns-then-word-nk c i h q =
    same-group c.args.nk i c.args.p (omega arith) h q c.if-word-nk.true

pub returns : goal.returns
returns c i h q =
    next-group c.args.nk i c.args.p (omega arith) h q (omega arith) c.times2.ensures
