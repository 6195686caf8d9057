use native.Mathlib.Omega.{arith}
use lib.Dec.{ltb}
use Rattle.receive.proofs.said.said.Goals as goal

pub be32_at-id-requires : goal.be32_at-id-requires
be32_at-id-requires c = omega (arith, c.requires)

pub returns : goal.returns
returns c =
    let a = c.args in
    let p = a.x.policies in
    λ i. record {
      delay = p.delay;
      rekey = ltb 0 p.rekeys;
      initial = p.initial;
      least = a.row.least;
      id = c.be32_at-id.ensures i;
      deletes = record { count = a.x.payloads.deletes; start = c.saturating_sub-start.ensures i };
    }
