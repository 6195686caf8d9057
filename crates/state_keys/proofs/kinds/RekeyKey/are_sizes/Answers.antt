use mathlib.Core.Path.{sym, ◌∙◌}
use Rattle.state_keys.specs.Kinds.{rekey_sizes}
use Rattle.state_keys.proofs.kinds.RekeyKey.are_sizes.Goals as goal

pub returns-then-is_size : goal.returns-then-is_size
unfolding rekey_sizes
returns-then-is_size c = let e = sym c.is_size.ensures ∙ c.if-is_size.true in rw e c.is_size-then-is_size.ensures

pub returns-else-is_size : goal.returns-else-is_size
unfolding rekey_sizes
returns-else-is_size c = let e = sym c.is_size.ensures ∙ c.if-is_size.false in rw (e, c.if-is_size.false)
