use Rattle.std.proofs.Common.{arith}
use Rattle.state_sa.proofs.Laws.{elapsed-is}
use Rattle.state_sa.proofs.clock.elapsed_at_least.Goals as goal

pub returns : goal.returns
returns c =
    let a = c.args in
    let w = c.wrapping_sub_u32-elapsed in
    elapsed-is w.result a.now a.start a.seconds (omega arith) (omega arith) (omega arith) w.ensures.value
