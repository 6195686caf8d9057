use mathlib.Core.Path.{refl}
use Rattle.aes.specs.inner.Rounds.{split_of}
use Rattle.aes.proofs.rounds.split.Goals as goal

-- `aes::rounds::split` meets its contract.

pub returns : goal.returns
unfolding split_of
returns c = refl
