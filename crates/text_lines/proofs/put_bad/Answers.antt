use Rattle.text_lines.proofs.RoomLaws.{put-append}
use Rattle.text_lines.proofs.put_bad.Goals as goal

-- `text_lines::put_bad` meets its contract: one character is put behind the other.

pub returns : goal.returns
returns c =
    put-append c.put-a.ensures (put-append c.put-b.ensures (put-append c.put-c.ensures c.put.ensures))
