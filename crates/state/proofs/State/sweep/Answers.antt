use Rattle.std.proofs.Common.{sym, ◌∙◌}
use Rattle.state_keys.specs.Limits.{limits}
use Rattle.state.proofs.Laws.{swept-yes, swept-no}
use Rattle.state.proofs.State.sweep.Goals as goal

pub returns-then-not-is_formed : goal.returns-then-not-is_formed
returns-then-not-is_formed c =
    let a = c.args in swept-no limits a.self a.tick (sym c.is_formed.ensures ∙ c.if-not-is_formed.true)

pub returns : goal.returns
returns c =
    let a = c.args in
    swept-yes limits a.self a.tick _ (sym c.is_formed.ensures ∙ c.if-not-is_formed.false) c.sweep-table.ensures
