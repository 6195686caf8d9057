use mathlib.Core.Path.{sym, ap, ◌∙◌}
use mathlib.Core.Bool.{not}
use Rattle.state_keys.specs.Limits.{limits}
use Rattle.wire_frames.specs.declared.exchanges.Exchange.{Exchange}
use Rattle.check_admission.specs.inner.Steps.{barred}
use Rattle.check_admission.proofs.Laws.{two_formed, two-broken, formed-count}
use Rattle.check_admission.proofs.number2.number_2.Goals as goal

pub is_barred-requires : goal.is_barred-requires
is_barred-requires c =
    let a = c.args in
    formed-count limits a.state a.tick a.exchange a.spi.now (sym c.is_formed.ensures ∙ c.if-not-is_formed.false)

pub returns-then-not-is_formed : goal.returns-then-not-is_formed
returns-then-not-is_formed c =
    let a = c.args in
    ap not c.if-not-is_formed.true
    ∙ two-broken limits a.state a.tick a.exchange a.spi.now (sym c.is_formed.ensures ∙ c.if-not-is_formed.true)

pub returns-else-not-is_formed : goal.returns-else-not-is_formed
returns-else-not-is_formed c =
    let a = c.args in
    two_formed limits a.state a.tick a.exchange a.spi.now _ (sym c.is_formed.ensures ∙ c.if-not-is_formed.false)
    (c.is_barred.ensures
    ∙ ap (λ (x : Exchange). barred limits a.state.table x a.spi.now a.tick) c.exchange_of-x.ensures)
