use mathlib.Core.Path.{sym, subst}
use mathlib.Core.Bool.{Bool}
use Rattle.rules_chains.specs.Refusals.{EntriesConflict}
use Rattle.unwrap_conflicts.specs.inner.Values.{Decides}
use Rattle.unwrap_conflicts.proofs.ConflictLaws.{wrong-first, wrong-back, conflict-wrong, conflict-tells}
use Rattle.unwrap_conflicts.proofs.entries_conflict.Goals as goal

pub returns-then-any_wrong : goal.returns-then-any_wrong
returns-then-any_wrong c frame roots l size lists s nonzero =
    let a = c.args in
    subst (λ (b : Bool). Decides b (EntriesConflict roots l size)) (sym c.if-any_wrong.true)
    (conflict-wrong frame a.entries.now _ a.cells.now roots l size lists s
    (wrong-first a.cells.now _ c.requires c.if-any_wrong.ensures))

pub returns-else-any_wrong : goal.returns-else-any_wrong
returns-else-any_wrong c frame roots l size lists s nonzero =
    let a = c.args in
    conflict-tells frame a.entries.now _ a.cells.now roots l size lists s c.any_clash.result
    (λ w. c.if-any_wrong.ensures (wrong-back a.cells.now _ c.requires w)) c.any_clash.ensures nonzero
