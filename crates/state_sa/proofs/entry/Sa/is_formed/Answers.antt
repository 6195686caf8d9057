use Rattle.std.proofs.Common.{sym, ◌∙◌}
use Rattle.state_sa.specs.Entry.{sa_formed}
use Rattle.state_sa.proofs.entry.Sa.is_formed.Goals as goal

pub returns-then-is_sized : goal.returns-then-is_sized
unfolding sa_formed
returns-then-is_sized c = rw (sym c.is_sized.ensures ∙ c.if-is_sized.true) c.fit_lifetime.ensures

pub returns-else-is_sized : goal.returns-else-is_sized
unfolding sa_formed
returns-else-is_sized c = rw (sym c.is_sized.ensures ∙ c.if-is_sized.false, c.if-is_sized.false)
