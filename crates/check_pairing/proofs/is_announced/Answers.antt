use Rattle.std.proofs.Common.{sym, ◌∙◌}
use Rattle.check_pairing.proofs.InTable.{announced-counted}
use Rattle.check_pairing.proofs.is_announced.Goals as goal

pub returns-then-not-due : goal.returns-then-not-due
returns-then-not-due c = λ l n.
    let a = c.args in
    announced-counted a.tick a.s l _ _ _ (sym c.due.ensures ∙ c.if-not-due.true) c.wide.ensures.0 c.spi_size-n.ensures.0
    (c.count_names.ensures l n)
