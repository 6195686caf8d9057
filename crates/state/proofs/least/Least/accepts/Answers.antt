use mathlib.Core.Path.{sym, ap}
use Rattle.state.specs.Least.{acceptable}
use Rattle.state.proofs.least.Least.accepts.Goals as goal

pub returns-in-Id : goal.returns-in-Id
returns-in-Id c = sym (ap (acceptable c.args.id) c.in-Id.is)
