use borrow.Author.Tests.{eq-eqb, ne_eqb}
use Rattle.state_keys.specs.Algorithms.{is_row_of}
use Rattle.state_keys.proofs.Sizes.{row_is}
use Rattle.state_keys.proofs.algorithms.is_row.Goals as goal
use Rattle.state_keys.proofs.algorithms.is_row.Goals.{then-r-kind-via-then-r-kind, then-r-kind-via-else-r-kind+then-r-id}

pub returns-then-r-kind : goal.returns-then-r-kind
unfolding is_row_of
returns-then-r-kind c =
    elim c.then-r-kind.branch [
      | then-r-kind-via-then-r-kind w ↦ rw (ne_eqb _ _ w.if-r-kind.true)
      | then-r-kind-via-else-r-kind+then-r-id w ↦ rw (eq-eqb _ _ w.if-r-kind.false, ne_eqb _ _ w.if-r-id.true)
    ]

pub returns-then-kind-ne-ENCRYPTION : goal.returns-then-kind-ne-ENCRYPTION
unfolding is_row_of
returns-then-kind-ne-ENCRYPTION c = simp (eq-eqb _ _ c.if-r-kind.false, eq-eqb _ _ c.if-r-id.false, ne_eqb _ _ c.if-kind-ne-ENCRYPTION.true)

pub returns-else-kind-ne-ENCRYPTION : goal.returns-else-kind-ne-ENCRYPTION
returns-else-kind-ne-ENCRYPTION c =
    let a = c.args in row_is a.kind a.id a.bits a.r c.if-r-kind.false c.if-r-id.false c.if-kind-ne-ENCRYPTION.false
