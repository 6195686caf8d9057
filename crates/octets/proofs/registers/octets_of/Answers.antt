use mathlib.Core.Path.{◌∙◌}
use Rattle.octets.proofs.RoundTrip.{high-first}
use Rattle.octets.proofs.registers.octets_of.Goals as goal

pub returns : goal.returns
returns c = c.to_be_bytes.ensures ∙ high-first 8 c.args.x
