use mathlib.Core.Path.{ap}
use lib.ListN.{replicate}
use Rattle.state_keys.specs.Limits.{limits}
use Rattle.state.specs.declared.held.HeldKey.{HeldKey}
use Rattle.state.specs.Held.{held_of}
use Rattle.state.proofs.held.Held.new.Goals as goal

pub returns : goal.returns
unfolding held_of
returns c = ap (λ (k : HeldKey). record { keys = replicate limits.held_keys k; count = 0 }) c.blank-none.ensures
