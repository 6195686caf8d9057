use Rattle.aes.specs.inner.Rounds.{round_of}
use Rattle.aes.proofs.rounds.round.Goals as goal

-- `aes::rounds::round` meets its contract.

pub returns : goal.returns
unfolding round_of
returns c =
    λ i. record {
      a = c.column.ensures i;
      b = c.column-2.ensures i;
      c = c.column-3.ensures i;
      d = c.column-4.ensures i;
    }
