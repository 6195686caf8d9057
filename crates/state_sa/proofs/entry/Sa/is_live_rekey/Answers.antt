use Rattle.std.proofs.Common.{ne_eqb}
use Rattle.state_sa.specs.Entry.{live_rekey}
use Rattle.state_sa.proofs.Laws.{live-rekey, retiring-rekey}
use Rattle.state_sa.proofs.entry.Sa.is_live_rekey.Goals as goal

pub returns-in-Live : goal.returns-in-Live
returns-in-Live c = live-rekey c.args.self c.if-self-eq-REKEY.true c.in-Live.is

pub returns-in_default : goal.returns-in_default
returns-in_default c = retiring-rekey c.args.self _ _ c.if-self-eq-REKEY.true c.in_default.is

pub returns-else-self-eq-REKEY : goal.returns-else-self-eq-REKEY
unfolding live_rekey
returns-else-self-eq-REKEY c = rw (ne_eqb _ _ c.if-self-eq-REKEY.false)
