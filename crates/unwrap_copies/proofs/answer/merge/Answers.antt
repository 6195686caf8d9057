use Rattle.unwrap_copies.proofs.Joining.{nothing_left, nothing_right, conflict-left, conflict-right}
use Rattle.unwrap_copies.proofs.answer.merge.Goals as goal

pub returns-in-Nothing : goal.returns-in-Nothing
returns-in-Nothing c need l m p q =
    let a = c.args in nothing_left l m need a.a a.b p q c.in-Nothing.is

pub returns-in-Conflict : goal.returns-in-Conflict
returns-in-Conflict c need l m p q =
    let a = c.args in conflict-left l m need a.a a.b p q c.in-Conflict.is

pub returns-in-Nothing-g : goal.returns-in-Nothing-g
returns-in-Nothing-g c need l m p q =
    let a = c.args in nothing_right l m need a.a a.b p q c.in-Nothing-g.is

pub returns-in-Conflict-g : goal.returns-in-Conflict-g
returns-in-Conflict-g c need l m p q =
    let a = c.args in conflict-right l m need a.a a.b p q c.in-Conflict-g.is
