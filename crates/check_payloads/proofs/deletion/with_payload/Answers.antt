use native.Mathlib.Omega.{arith}
use borrow.Author.Tests.{eq-eqb, ne_eqb}
use Rattle.check_payloads.proofs.deletion.with_payload.Goals as goal

pub with_one-requires : goal.with_one-requires
with_one-requires c = let p = c.requires in (p.0 c.if-kind-eq-DELETE.true, p.1)

pub returns-then-kind-eq-DELETE : goal.returns-then-kind-eq-DELETE
returns-then-kind-eq-DELETE c = rw (eq-eqb _ 42 c.if-kind-eq-DELETE.true) c.with_one.ensures

pub returns : goal.returns
returns c = (rw (ne_eqb _ 42 c.if-kind-eq-DELETE.false), omega arith)
