use mathlib.Core.Path.{sym, ◌∙◌}
use Rattle.unwrap_search.proofs.Opening.{tried-opened, tried_other}
use Rattle.unwrap_search.proofs.open.try_on_entry.Goals as goal

-- `unwrap_search::open::try_on_entry` meets its contract.

pub returns-then-not-names : goal.returns-then-not-names
returns-then-not-names c w v is x =
    let a = c.args in
    tried_other a.frame.now a.e.now w is a.id v a.size a.c.now (sym c.if-not-names.true ∙ c.names.ensures)

pub returns : goal.returns
returns c w v is x =
    let a = c.args in
    tried-opened a.frame.now a.e.now w is a.id v a.size a.c.now
    (sym c.if-not-names.false ∙ c.names.ensures)
    c.open_entry.result (c.open_entry.ensures v x)
