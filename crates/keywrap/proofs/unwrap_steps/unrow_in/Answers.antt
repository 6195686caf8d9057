use borrow.Author.Rules.{rules}
use mathlib.Core.Path.{◌≡◌, ap, ◌∙◌}
use Prim.Native.Nat.{ℕ}
use native.Mathlib.Omega.{arith}
use Rattle.rfc5649.specs.inner.Unwrap.{unrow}
use Rattle.keywrap.proofs.Turns.{unrow-turn}
use Rattle.keywrap.proofs.unwrap_steps.unrow_in.Goals as goal

-- `keywrap::unwrap_steps::unrow_in` meets its contract.

pub loop-i-preserved : goal.loop-i-preserved
loop-i-preserved c =
    let a = c.args in (
      search rules,
      λ key e. unrow-turn key c.loop-i.s a.base c.loop-i.i (omega arith) (c.loop-i.invariant.1 key e) (c.unstep_in.ensures key e),
    )

pub returns : goal.returns
unfolding unrow
returns c = λ key e.
    let a = c.args in
    ap (λ (j : ℕ). unrow key a.base j c.loop-i.s) (let z : 0 ≡ c.loop-i.i = omega arith in z) ∙ c.loop-i.invariant.1 key e
