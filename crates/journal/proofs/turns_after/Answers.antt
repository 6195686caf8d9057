use native.Mathlib.Omega.{arith}
use mathlib.Core.Logic.{inl, inr}
use Rattle.journal.proofs.turns_after.Goals as goal

-- `journal::turns_after` meets its contract.

pub returns-then-n-eq0 : goal.returns-then-n-eq0
returns-then-n-eq0 c = inl (omega arith, omega arith)

pub returns : goal.returns
returns c = inr (λ z. omega (arith, z, c.if-n-eq0.false), omega arith)
