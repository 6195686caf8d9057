use Rattle.std.proofs.Common.{[], arith}
use Rattle.journaling.specs.Reader.{not-fed, then-fed}
use Rattle.journaling.proofs.Blocks.{blocks-same, replayed}
use Rattle.journaling.proofs.replay.Goals as goal

-- `journaling::replay` meets its contract.

pub returns : goal.returns
returns c =
    let s = c.args in
    let journal = s.journal.now in
    replayed s.profile journal c.finish.result (omega arith)
    (blocks-same s.profile journal c.feed-r.result c.finish.result
    (then-fed [] journal c.begin-start.result c.feed-r.result (not-fed c.begin-start.result c.begin-start.ensures) c.feed-r.ensures)
    c.finish.ensures)
