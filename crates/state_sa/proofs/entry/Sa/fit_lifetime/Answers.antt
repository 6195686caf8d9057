use Rattle.std.proofs.Common.{sym, ap}
use Rattle.state_sa.specs.Entry.{fit_lifetime}
use Rattle.state_sa.proofs.entry.Sa.fit_lifetime.Goals as goal

pub returns-in-Limited : goal.returns-in-Limited
returns-in-Limited c = sym (ap fit_lifetime c.in-Limited.is)
