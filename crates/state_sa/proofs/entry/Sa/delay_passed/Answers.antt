use Rattle.state_sa.proofs.Laws.{due-live, due-retiring}
use Rattle.state_sa.proofs.entry.Sa.delay_passed.Goals as goal

pub returns-in-Live : goal.returns-in-Live
returns-in-Live c = let a = c.args in due-live a.self a.now c.in-Live.is

pub returns-in-Retiring : goal.returns-in-Retiring
returns-in-Retiring c =
    let a = c.args in
    due-retiring a.self a.now _ _ _ c.in-Retiring.is c.elapsed_at_least.ensures
