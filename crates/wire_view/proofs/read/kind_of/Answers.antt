use Rattle.std.proofs.Common.{sym, ◌∙◌}
use Rattle.wire_view.proofs.KindLaws.{uncounted, is-ok, wide, sa, told}
use Rattle.wire_view.proofs.read.kind_of.Goals as goal

pub returns-then-not-is_counted : goal.returns-then-not-is_counted
returns-then-not-is_counted c = told _ _ (uncounted c.args.s.now (sym c.is_counted.ensures.counted ∙ c.if-not-is_counted.true))

pub returns-then-p-eq-NO_PROTOCOL : goal.returns-then-p-eq-NO_PROTOCOL
returns-then-p-eq-NO_PROTOCOL c =
    let q = is-ok c.policy_spot.result _ c.in_ok-ok.ensures.value ∙ c.policy_spot.ensures in
    let h = sym c.is_counted.ensures.counted ∙ c.if-not-is_counted.false in
    told _ _ (wide c.args.s.now _ h q c.wide-p.result c.wide-p.ensures.0 c.if-p-eq-NO_PROTOCOL.true)

pub returns : goal.returns
returns c =
    let q = is-ok c.policy_spot.result _ c.in_ok-ok.ensures.value ∙ c.policy_spot.ensures in
    let h = sym c.is_counted.ensures.counted ∙ c.if-not-is_counted.false in
    told _ _ (sa c.args.s.now _ h q c.wide-p.result c.wide-p.ensures.0 c.if-p-eq-NO_PROTOCOL.false)
