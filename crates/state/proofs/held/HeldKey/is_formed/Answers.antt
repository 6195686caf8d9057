use borrow.Author.Tests.{eq-eqb}
use Rattle.state.proofs.Laws.{key-is, key-zero}
use Rattle.state.proofs.held.HeldKey.is_formed.Goals as goal

pub returns-then-self-ne0 : goal.returns-then-self-ne0
returns-then-self-ne0 c = key-is c.args.self _ c.if-self-ne0.true c.is_size.ensures

pub returns-else-self-ne0 : goal.returns-else-self-ne0
returns-else-self-ne0 c = rw (eq-eqb _ _ c.if-self-ne0.false) (key-zero c.args.self c.if-self-ne0.false)
