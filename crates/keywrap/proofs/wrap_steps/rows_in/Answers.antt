use mathlib.Core.Path.{refl}
use Rattle.rfc5649.specs.Steps.{rows}
use borrow.Author.Rules.{rules}
use Rattle.keywrap.proofs.Turns.{rows-turn}
use Rattle.keywrap.proofs.wrap_steps.rows_in.Goals as goal

-- `keywrap::wrap_steps::rows_in` meets its contract.

pub loop-j-init : goal.loop-j-init
unfolding rows
loop-j-init c = (refl, λ key e. refl)

pub loop-j-preserved : goal.loop-j-preserved
loop-j-preserved c =
    let a = c.args in (
      search rules,
      λ key e. rows-turn key a.s.now a.n c.loop-j.j (c.loop-j.invariant.1 key e) (c.row_in.ensures key e),
    )
