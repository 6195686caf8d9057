use Rattle.std.proofs.Common.{ap, sym, ◌∙◌, is_some}
use Rattle.unwrap_paths.proofs.Putting.{stays-is}
use Rattle.unwrap_paths.proofs.held.stays.Goals as goal

-- `unwrap_paths::held::stays` meets its contract.

pub returns-then-met : goal.returns-then-met
returns-then-met c =
    let a = c.args in
    stays-is a.path c.requires a.met a.k c.if-met.true c.is_none.result (sym (ap is_some c.find.ensures) ∙ c.is_none.ensures)
