use Rattle.std.proofs.Common.{sym, ◌∙◌}
use Rattle.state_sa.specs.Entry.{due}
use Rattle.state_sa.proofs.entry.Sa.due.Goals as goal

pub returns-then-delay_passed : goal.returns-then-delay_passed
unfolding due
returns-then-delay_passed c = rw (sym c.delay_passed.ensures ∙ c.if-delay_passed.true, c.if-delay_passed.true)

pub returns-else-delay_passed : goal.returns-else-delay_passed
unfolding due
returns-else-delay_passed c = rw (sym c.delay_passed.ensures ∙ c.if-delay_passed.false) c.has_run_out.ensures
