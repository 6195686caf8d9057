use Rattle.text_lines.proofs.RoomLaws.{put-append}
use Rattle.text_lines.proofs.put_field.Goals as goal

-- `text_lines::put_field` meets its contract.

pub returns : goal.returns
returns c =
    put-append c.put_number-last.ensures c.put.ensures
