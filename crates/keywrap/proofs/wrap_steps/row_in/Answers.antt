use mathlib.Core.Path.{refl}
use Rattle.rfc5649.specs.Steps.{row}
use borrow.Author.Rules.{rules}
use Rattle.keywrap.proofs.Turns.{row-turn}
use Rattle.keywrap.proofs.wrap_steps.row_in.Goals as goal

-- `keywrap::wrap_steps::row_in` meets its contract.

pub loop-i-init : goal.loop-i-init
unfolding row
loop-i-init c = (refl, λ key e. refl)

pub loop-i-preserved : goal.loop-i-preserved
loop-i-preserved c =
    let a = c.args in (
      search rules,
      λ key e. row-turn key a.s.now a.base c.loop-i.i (c.loop-i.invariant.1 key e) (c.step_in.ensures key e),
    )
