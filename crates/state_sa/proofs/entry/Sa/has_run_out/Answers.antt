use Rattle.state_sa.proofs.Laws.{never-out, out-by}
use Rattle.state_sa.proofs.entry.Sa.has_run_out.Goals as goal

pub returns-in-Unlimited : goal.returns-in-Unlimited
returns-in-Unlimited c = let a = c.args in never-out a.self a.now c.in-Unlimited.is

pub returns-in-Limited : goal.returns-in-Limited
returns-in-Limited c =
    let a = c.args in
    out-by a.self a.now _ _ _ c.in-Limited.is c.elapsed_at_least.ensures
