use mathlib.Core.Path.{sym, ap, ◌∙◌}
use mathlib.Core.Bool.{not}
use Rattle.wire_frames.specs.declared.exchanges.Exchange.{Exchange}
use Rattle.check_admission.proofs.Laws.{number3-judged, number3-not}
use Rattle.check_admission.proofs.number3.number_3.Goals as goal

pub returns-then-x : goal.returns-then-x
returns-then-x c =
    let a = c.args in
    number3-judged a.state a.exchange a.id _
    (sym (ap (λ (x : Exchange). x.compares_message_id) c.exchange_of-x.ensures) ∙ c.if-x.true) (ap not c.accepts.ensures)

pub returns-else-x : goal.returns-else-x
returns-else-x c =
    let a = c.args in
    c.if-x.false ∙ number3-not a.state a.exchange a.id
    (sym (ap (λ (x : Exchange). x.compares_message_id) c.exchange_of-x.ensures) ∙ c.if-x.false)
