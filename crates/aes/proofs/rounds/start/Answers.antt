use mathlib.Core.Path.{refl}
use Rattle.aes.specs.inner.Rounds.{add_first_key}
use Rattle.aes.proofs.rounds.start.Goals as goal

-- `aes::rounds::start` meets its contract.

pub returns : goal.returns
unfolding add_first_key
returns c = refl
