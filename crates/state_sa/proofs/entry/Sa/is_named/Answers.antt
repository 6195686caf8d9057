use Rattle.std.proofs.Common.{ne_eqb}
use Rattle.state_sa.specs.Entry.{named}
use Rattle.state_sa.proofs.Laws.{named-spi}
use Rattle.state_sa.proofs.entry.Sa.is_named.Goals as goal

pub returns-then-self-protocol : goal.returns-then-self-protocol
returns-then-self-protocol c =
    let a = c.args in
    named-spi a.self a.protocol _ a.spi.now _ c.if-self-protocol.true
    c.spi_size-n.ensures.0 c.same.ensures

pub returns-else-self-protocol : goal.returns-else-self-protocol
unfolding named
returns-else-self-protocol c = rw (ne_eqb _ _ c.if-self-protocol.false)
