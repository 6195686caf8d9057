use Rattle.aes.specs.inner.Rounds.{load_of}
use Rattle.aes.proofs.rounds.load.Goals as goal

-- `aes::rounds::load` meets its contract.

pub returns : goal.returns
unfolding load_of
returns c =
    λ i. record {
      a = c.join.ensures i;
      b = c.join-2.ensures i;
      c = c.join-3.ensures i;
      d = c.join-4.ensures i;
    }
