use mathlib.Core.Path.{sym}
use Rattle.text_lines.proofs.AnswerLaws.{decimal-one, decimal-more}
use Rattle.text_lines.proofs.RoomLaws.{put_as, put-append}
use Rattle.text_lines.proofs.+put_number.Goals as goal

-- `text_lines::put_number` meets its contract: a call at a tenth of the number, which is the measure, puts the higher digits.

pub returns-then-n-lt10 : goal.returns-then-n-lt10
returns-then-n-lt10 t c = put_as (sym (decimal-one c.args.n c.if-n-lt10.true)) c.put.ensures

pub returns : goal.returns
returns t c =
    put_as (sym (decimal-more c.args.n c.if-n-lt10.false)) (put-append c.put_number-last.ensures c.put-2.ensures)
