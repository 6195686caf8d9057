use mathlib.Core.Path.{refl}
use native.Mathlib.Omega.{arith}
use Rattle.aes.proofs.Turns.{turned, ran}
use Rattle.aes.proofs.rounds.run.Goals as goal

-- `aes::rounds::run` meets its contract. Before round r the state went through rounds 1 to r - 1.

pub loop-r-init : goal.loop-r-init
loop-r-init c = (omega arith, refl)

pub loop-r-preserved : goal.loop-r-preserved
loop-r-preserved c =
    let a = c.args in
    (omega arith, turned a.t.now a.k.now c.start-x.result c.loop-r.r (omega arith) c.loop-r.invariant.1 c.round-x.ensures)

pub returns : goal.returns
returns c =
    let a = c.args in
    ran a.t.now a.k.now a.s c.loop-r.r c.start-x.ensures c.loop-r.invariant.1 (omega arith) c.last.ensures
