use native.Mathlib.Omega.{arith}
use mathlib.Core.Path.{sym, ◌∙◌}
use Rattle.state_keys.specs.Kinds.{esp_key}
use Rattle.state_keys.proofs.Sizes.{encryption-le}
use Rattle.state_keys.proofs.kinds.EspKey.new.Goals as goal

pub returns-then-not-is_size : goal.returns-then-not-is_size
unfolding esp_key
returns-then-not-is_size c = let e = sym c.is_size.ensures ∙ c.if-not-is_size.true in rw e

pub padded-requires : goal.padded-requires
padded-requires c = (omega arith, encryption-le _ (sym c.is_size.ensures ∙ c.if-not-is_size.false))

pub returns : goal.returns
unfolding esp_key
returns c = let e = sym c.is_size.ensures ∙ c.if-not-is_size.false in rw (e, c.padded.ensures)
