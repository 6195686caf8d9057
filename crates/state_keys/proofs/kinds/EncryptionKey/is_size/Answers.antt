use mathlib.Core.Path.{sym, ◌∙◌}
use Rattle.state_keys.proofs.Sizes.{encryption-size, among-list}
use Rattle.state_keys.proofs.kinds.EncryptionKey.is_size.Goals as goal

pub returns : goal.returns
returns c = c.contains.ensures.value ∙ among-list 20 28 36 c.args.n ∙ sym (encryption-size c.args.n)
