use Rattle.std.proofs.Common.{refl}
use Rattle.state_sa.proofs.Laws.{retired-live, retired-kept}
use Rattle.state_sa.proofs.entry.Sa.retire.Goals as goal

pub returns-in-Live : goal.returns-in-Live
returns-in-Live c = let a = c.args in retired-live a.self a.now a.delay _ c.in-Live.is refl

pub returns-in-Retiring : goal.returns-in-Retiring
returns-in-Retiring c = let a = c.args in retired-kept a.self a.now a.delay _ _ c.in-Retiring.is
