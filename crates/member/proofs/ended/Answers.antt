use Rattle.std.proofs.Common.{take}
use Rattle.member.proofs.ended.Goals as goal

-- `member::ended` meets its contract: what `finished` leaves in the output is what is handed over.

pub returns : goal.returns
returns c =
    let f = c.finish-e in
    record { octets = take f.result.at f.new.out; over = c.hand_over.ensures; finishes = f.ensures.by_index }
