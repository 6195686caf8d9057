use mathlib.Core.Path.{◌∙◌}
use Rattle.rfc5282.proofs.OuterLaws.{alone-outer}
use Rattle.sealing.proofs.is_outer.Goals as goal

-- `sealing::is_outer` meets its contract.

pub returns : goal.returns
returns c =
    c.is_alone.ensures ∙ alone-outer c.args.frame.now
