use mathlib.Core.Path.{◌∙◌}
use Rattle.octets.proofs.Order.{same-is}
use Rattle.octets.proofs.compare.same.Goals as goal

pub returns : goal.returns
returns c = c.eq.ensures ∙ same-is c.args.a.now c.args.b.now
