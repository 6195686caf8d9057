use Rattle.text_lines.proofs.RoomLaws.{put_full}
use Rattle.text_lines.proofs.put.Goals as goal

-- `text_lines::put` meets its contract.

pub returns : goal.returns
returns c = put_full c.args.room.now c.args.at c.args.octet c.if-at-room.false
