use borrow.Author.Tests.{lt-leb}
use Rattle.std.proofs.Common.{◌∙◌}
use Rattle.check_composition.proofs.AddressLaws.{below, up_to, other}
use Rattle.check_composition.proofs.addresses.is_multicast.Goals as goal

pub returns-then-first-ge-IPV4_GROUP_FIRST : goal.returns-then-first-ge-IPV4_GROUP_FIRST
returns-then-first-ge-IPV4_GROUP_FIRST c =
    let a = c.args in up_to a.kind a.first c.if-kind-eq-TS_IPV4_ADDR_RANGE.true c.if-first-ge-IPV4_GROUP_FIRST.true

pub returns-else-first-ge-IPV4_GROUP_FIRST : goal.returns-else-first-ge-IPV4_GROUP_FIRST
returns-else-first-ge-IPV4_GROUP_FIRST c =
    let a = c.args in
    lt-leb 224 a.first c.if-first-ge-IPV4_GROUP_FIRST.false
    ∙ below a.kind a.first c.if-kind-eq-TS_IPV4_ADDR_RANGE.true c.if-first-ge-IPV4_GROUP_FIRST.false

pub returns-else-kind-eq-TS_IPV4_ADDR_RANGE : goal.returns-else-kind-eq-TS_IPV4_ADDR_RANGE
returns-else-kind-eq-TS_IPV4_ADDR_RANGE c = other c.args.kind c.args.first c.if-kind-eq-TS_IPV4_ADDR_RANGE.false
