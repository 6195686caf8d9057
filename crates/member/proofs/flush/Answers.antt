use Rattle.std.proofs.Common.{refl, inl, rules}
use Rattle.member.proofs.HandingLaws.{over_none}
use Rattle.member.proofs.BlockLaws.{emptied-flushed}
use Rattle.member.proofs.flush.Goals as goal

-- `member::flush` meets its contract.

pub returns-then-out-at-ge-REPLY_ROOM : goal.returns-then-out-at-ge-REPLY_ROOM
returns-then-out-at-ge-REPLY_ROOM c =
    record { member = refl; key = refl; keyed = refl; len = refl; over = inl (over_none, refl); room = c.if-out-at-ge-REPLY_ROOM.true }

pub returns : goal.returns
returns c = emptied-flushed c.emptied.ensures (search rules)
