use Rattle.std.proofs.Common.{refl}
use Rattle.journaling.proofs.PutLaws.{no-room-for, room_for}
use Rattle.journaling.proofs.entered.Goals as goal

-- `journaling::entered` meets its contract.

pub returns-in-None : goal.returns-in-None
returns-in-None c =
    let s = c.args in
    record {
      by_index = (λ x room after t p. no-room-for s.member s.next x room after t (rw c.in-None.is at p));
      result_value = refl;
    }

pub returns-in-Some : goal.returns-in-Some
returns-in-Some c =
    let s = c.args in
    record {
      by_index = (λ x room after t p. room_for s.member s.next x room after t (rw c.in-Some.is at p));
      result_value = refl;
    }
