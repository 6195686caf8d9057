use Rattle.std.proofs.Common.{◌∙◌}
use borrow.Author.Tests.{ne_eqb}
use Rattle.check_pairing.proofs.OneName.{no_name, named-so, named_other}
use Rattle.check_pairing.proofs.names.is_named.Goals as goal

pub returns-then-first-eq-NO_PROTOCOL : goal.returns-then-first-eq-NO_PROTOCOL
returns-then-first-eq-NO_PROTOCOL c = no_name _ _ _ c.if-first-eq-NO_PROTOCOL.true

pub returns-then-first-protocol : goal.returns-then-first-protocol
returns-then-first-protocol c =
    let a = c.args in
    named-so a.protocol a.spi.now a.first a.x.now c.if-first-eq-NO_PROTOCOL.false _ c.if-first-protocol.true c.same.ensures

pub returns-else-first-protocol : goal.returns-else-first-protocol
returns-else-first-protocol c =
    let a = c.args in
    ne_eqb a.first a.protocol c.if-first-protocol.false
    ∙ named_other a.protocol a.spi.now a.first a.x.now c.if-first-eq-NO_PROTOCOL.false c.if-first-protocol.false
