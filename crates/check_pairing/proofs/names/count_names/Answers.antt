use Rattle.check_pairing.proofs.Walking.{head_at, along-fits}
use Rattle.check_pairing.proofs.Counts.{counting-end, counting-yes, counting-no}
use Rattle.check_pairing.proofs.names.count_names.Goals as goal

pub head_parts-p-requires : goal.head_parts-p-requires
head_parts-p-requires c =
    let l = c.loop-at in
    along-fits _ l.at _ l.invariant.along c.loop-at-test.true c.requires.0 c.requires.1

pub loop-at-preserved-then-is_named : goal.loop-at-preserved-then-is_named
loop-at-preserved-then-is_named c =
    let l = c.loop-at in
    let h = head_at _ _ _ c.loop-at-test.true c.head_parts-p.ensures in
    counting-yes _ _ l.n l.at l.invariant c.loop-at-test.true _ h _ c.is_named.ensures c.if-is_named.true

pub loop-at-preserved : goal.loop-at-preserved
loop-at-preserved c =
    let l = c.loop-at in
    let h = head_at _ _ _ c.loop-at-test.true c.head_parts-p.ensures in
    counting-no _ _ l.n l.at l.invariant c.loop-at-test.true _ h _ c.is_named.ensures c.if-is_named.false

pub returns : goal.returns
returns c = let l = c.loop-at in counting-end _ _ l.n l.at l.invariant c.loop-at-test.false
