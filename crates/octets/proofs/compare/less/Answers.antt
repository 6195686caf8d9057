use mathlib.Core.Path.{◌∙◌}
use Rattle.octets.proofs.Order.{less-is}
use Rattle.octets.proofs.compare.less.Goals as goal

pub returns : goal.returns
returns c = c.lt.ensures ∙ less-is c.args.a.now c.args.b.now
