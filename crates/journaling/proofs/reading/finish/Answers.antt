use Rattle.std.proofs.Common.{refl}
use Rattle.journaling.proofs.BlockLaws.{gives-stopped, gives_whole}
use Rattle.journaling.proofs.reading.finish.Goals as goal

-- `journaling::reading::finish` meets its contract.

pub returns-then-p : goal.returns-then-p
returns-then-p c = gives-stopped c.args.r _ c.if-p.true refl

pub returns : goal.returns
returns c = gives_whole c.args.r c.if-p.false
