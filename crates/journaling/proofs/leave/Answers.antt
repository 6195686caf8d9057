use Rattle.rules_outcome.specs.Run.{leave as left}
use Rattle.journaling.proofs.PutLaws.{left_step}
use Rattle.journaling.proofs.leave.Goals as goal

-- `journaling::leave` meets its contract.

pub returns : goal.returns
returns c =
    let s = c.args in
    c.entered.ensures.by_index left s.room.now c.put_leaving-line.new.room (left_step s.member c.leave-next.result c.leave-next.ensures)
    c.put_leaving-line.ensures
