use Prim.Native.Nat.{ℕ}
use mathlib.Core.Path.{ap, ◌∙◌}
use mathlib.Core.Bool.{not}
use lib.Dec.{eqb}
use Rattle.check_pairing.specs.inner.Names.{is_unpaired}
use Rattle.check_pairing.proofs.OneName.{no_name, a-name}
use Rattle.check_pairing.proofs.names.is_unpaired.Goals as goal

pub returns-then-first-ne-NO_PROTOCOL : goal.returns-then-first-ne-NO_PROTOCOL
returns-then-first-ne-NO_PROTOCOL c = λ m n.
    a-name (is_unpaired m) _ _ _ c.if-first-ne-NO_PROTOCOL.true (ap (λ (k : ℕ). not (eqb k 1)) (c.count_names.ensures m n))

pub returns-else-first-ne-NO_PROTOCOL : goal.returns-else-first-ne-NO_PROTOCOL
returns-else-first-ne-NO_PROTOCOL c = λ m n.
    ap (λ (k : ℕ). not (eqb k 0)) c.if-first-ne-NO_PROTOCOL.false ∙ no_name (is_unpaired m) _ _ c.if-first-ne-NO_PROTOCOL.false
