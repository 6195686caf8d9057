use Rattle.std.proofs.Common.{sym, ◌∙◌, refl}
use Rattle.state_keys.specs.Limits.{limits}
use Rattle.state.proofs.Laws.{asked-yes, asked-no}
use Rattle.state.proofs.State.find.Goals as goal

pub returns-then-not-is_formed : goal.returns-then-not-is_formed
returns-then-not-is_formed c =
    let a = c.args in
    asked-no limits a.self a.protocol a.spi.now _ (sym c.is_formed.ensures ∙ c.if-not-is_formed.true) refl

pub returns : goal.returns
returns c =
    let a = c.args in
    asked-yes limits a.self a.protocol a.spi.now _ (sym c.is_formed.ensures ∙ c.if-not-is_formed.false) c.find.ensures
