use mathlib.Core.Path.{ap, ◌∙◌}
use Prim.Native.Nat.{ℕ}
use Rattle.aes.specs.inner.Word.{column_of}
use Rattle.aes.specs.inner.Inverse.{unmixed_of}
use Rattle.aes.proofs.expansion.unmix.Goals as goal

-- `aes::expansion::unmix` meets its contract.

pub returns : goal.returns
unfolding unmixed_of
returns c =
    c.column.ensures ∙ ap (λ (y : ℕ). column_of c.args.t.now y y y y 0) c.last_column-y.ensures
