use Rattle.state.proofs.Laws.{after_more, after_last}
use Rattle.state.proofs.least.Least.after.Goals as goal

pub returns-then-id-lt4294967295 : goal.returns-then-id-lt4294967295
returns-then-id-lt4294967295 c = after_more c.args.id c.if-id-lt4294967295.true

pub returns : goal.returns
returns c = after_last c.args.id c.if-id-lt4294967295.false
