use mathlib.Core.Path.{sym, ◌∙◌}
use Rattle.state_keys.proofs.Sizes.{wrapping-size, among-list}
use Rattle.state_keys.proofs.kinds.WrappingKey.is_size.Goals as goal

pub returns : goal.returns
returns c = c.contains.ensures.value ∙ among-list 16 24 32 c.args.n ∙ sym (wrapping-size c.args.n)
