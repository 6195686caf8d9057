use borrow.Author.Rules.{rules}
use mathlib.Core.Path.{◌≡◌, ap, ◌∙◌}
use Prim.Native.Nat.{ℕ}
use native.Mathlib.Omega.{arith}
use Rattle.rfc5649.specs.inner.Unwrap.{unrows}
use Rattle.keywrap.proofs.Turns.{unrows-turn}
use Rattle.keywrap.proofs.unwrap_steps.unrows_in.Goals as goal

-- `keywrap::unwrap_steps::unrows_in` meets its contract.

pub loop-j-preserved : goal.loop-j-preserved
loop-j-preserved c =
    let a = c.args in (
      search rules,
      λ key e. unrows-turn key c.loop-j.s a.n c.loop-j.j (omega arith) (c.loop-j.invariant.1 key e) (c.unrow_in.ensures key e),
    )

pub returns : goal.returns
unfolding unrows
returns c = λ key e.
    let a = c.args in
    ap (λ (j : ℕ). unrows key a.n j c.loop-j.s) (let z : 0 ≡ c.loop-j.j = omega arith in z) ∙ c.loop-j.invariant.1 key e
