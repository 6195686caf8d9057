use Rattle.keywrap.proofs.Turns.{backward-one, backward-more}
use Rattle.keywrap.proofs.unwrap_steps.backward_in.Goals as goal

-- `keywrap::unwrap_steps::backward_in` meets its contract.

pub returns-then-n-eq1 : goal.returns-then-n-eq1
returns-then-n-eq1 c = λ key e.
    let a = c.args in
    backward-one key a.s.now a.n c.if-n-eq1.true (c.unstep_in.ensures key e)

pub returns : goal.returns
returns c = λ key e.
    let a = c.args in
    backward-more key a.s.now a.n c.if-n-eq1.false (c.unrows_in.ensures key e)
