use Rattle.aes.specs.inner.Rounds.{last_round_of}
use Rattle.aes.proofs.rounds.last.Goals as goal

-- `aes::rounds::last` meets its contract.

pub returns : goal.returns
unfolding last_round_of
returns c =
    λ i. record {
      a = c.last_column.ensures i;
      b = c.last_column-2.ensures i;
      c = c.last_column-3.ensures i;
      d = c.last_column-4.ensures i;
    }
