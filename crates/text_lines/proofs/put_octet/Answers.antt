use Rattle.text_lines.proofs.RoomLaws.{put-append, put-octet-as}
use Rattle.text_lines.proofs.put_octet.Goals as goal

-- `text_lines::put_octet` meets its contract: one digit is put behind the other.

pub returns : goal.returns
returns c =
    put-append (put-octet-as c.digit_of.ensures c.put-half.ensures)
    (put-octet-as c.digit_of-2.ensures c.put.ensures)
