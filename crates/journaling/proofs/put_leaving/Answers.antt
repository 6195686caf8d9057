use Rattle.std.proofs.Common.{arith}
use Rattle.journaling.proofs.PutLaws.{leaving-left-out, leaving-put}
use Rattle.journaling.proofs.put_leaving.Goals as goal

-- `journaling::put_leaving` meets its contract.

pub returns-then-room-lt3 : goal.returns-then-room-lt3
returns-then-room-lt3 c = leaving-left-out c.args.room.now (omega arith)

pub returns : goal.returns
returns c =
    leaving-put c.put_digits-a.ensures c.put.ensures (omega (arith, c.if-room-lt3.false))
