use mathlib.Core.Path.{◌∙◌}
use Rattle.octets.proofs.Order.{order-is}
use Rattle.octets.proofs.compare.compare.Goals as goal

pub returns : goal.returns
returns c = c.cmp.ensures ∙ order-is c.args.a.now c.args.b.now
