use Rattle.keywrap.proofs.Turns.{forward-one, forward-more}
use Rattle.keywrap.proofs.wrap_steps.forward_in.Goals as goal

-- `keywrap::wrap_steps::forward_in` meets its contract.

pub returns-then-n-eq1 : goal.returns-then-n-eq1
returns-then-n-eq1 c = λ key e.
    let a = c.args in
    forward-one key a.s.now a.n c.if-n-eq1.true (c.step_in.ensures key e)

pub returns : goal.returns
returns c = λ key e.
    let a = c.args in
    forward-more key a.s.now a.n c.if-n-eq1.false (c.rows_in.ensures key e)
