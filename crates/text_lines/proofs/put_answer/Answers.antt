use Rattle.text_lines.proofs.AnswerLaws.{three-parts, four-parts}
use Rattle.text_lines.proofs.RoomLaws.{put-append, put_as}
use Rattle.text_lines.proofs.put_answer.Goals as goal

-- `text_lines::put_answer` meets its contract: one number is put behind the other, on number 1 a fourth one.

pub returns-then-number-eq1 : goal.returns-then-number-eq1
returns-then-number-eq1 c =
    let a = c.args in
    put_as (four-parts a.number a.sas a.held a.figure c.if-number-eq1.true)
    (put-append c.put_field-second.ensures
    (put-append c.put_field-third.ensures (put-append c.put_field-fourth.ensures c.put_field.ensures)))

pub returns : goal.returns
returns c =
    let a = c.args in
    put_as (three-parts a.number a.sas a.held a.figure c.if-number-eq1.false)
    (put-append c.put_field-second.ensures (put-append c.put_field-third.ensures c.put_field-2.ensures))
