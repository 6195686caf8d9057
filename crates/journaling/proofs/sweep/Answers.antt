use Rattle.rules_outcome.specs.Run.{sweep as swept}
use Rattle.journaling.proofs.PutLaws.{sweep-line, swept_step}
use Rattle.journaling.proofs.sweep.Goals as goal

-- `journaling::sweep` meets its contract.

pub returns : goal.returns
returns c =
    let s = c.args in
    c.entered.ensures.by_index (swept s.tick) s.room.now c.put_entry-line.new.room (swept_step s.member s.tick c.sweep-next.result
    c.sweep-next.ensures)
    (sweep-line s.tick c.put_entry-line.ensures)
