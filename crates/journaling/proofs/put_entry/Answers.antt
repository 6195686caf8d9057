use Rattle.std.proofs.Common.{◌∙◌, arith}
use Rattle.octets.proofs.RoundTrip.{high-first}
use Rattle.journaling.proofs.PutLaws.{entry-left-out, entry-put}
use Rattle.journaling.proofs.put_entry.Goals as goal

-- `journaling::put_entry` meets its contract.

pub returns-then-room-len : goal.returns-then-room-len
returns-then-room-len c =
    let s = c.args in
    entry-left-out s.key.now s.tick s.frame.now s.room.now (omega arith)

pub returns : goal.returns
returns c =
    let s = c.args in
    entry-put s.key.now s.tick s.frame.now c.to_be_bytes-t.result (c.to_be_bytes-t.ensures ∙ high-first 4 s.tick) c.put_digits-a.ensures
    c.put_digits-b.ensures c.put_digits-c.ensures c.put_digits-d.ensures c.put.ensures (omega (arith, c.if-room-len.false))
