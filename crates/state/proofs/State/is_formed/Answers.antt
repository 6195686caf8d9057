use Rattle.std.proofs.Common.{sym, ◌∙◌}
use Rattle.state_keys.specs.Limits.{limits}
use Rattle.state.proofs.Laws.{formed-parts, formed-not}
use Rattle.state.proofs.State.is_formed.Goals as goal

pub returns-then-is_formed : goal.returns-then-is_formed
returns-then-is_formed c =
    formed-parts limits c.args.self _
    (sym c.is_formed.ensures ∙ c.if-is_formed.true) c.is_formed-then-is_formed.ensures

pub returns-else-is_formed : goal.returns-else-is_formed
returns-else-is_formed c =
    c.if-is_formed.false ∙ formed-not limits c.args.self (sym c.is_formed.ensures ∙ c.if-is_formed.false)
