use Rattle.check_pairing.proofs.Walking.{head_at, along-fits}
use Rattle.check_pairing.proofs.Pairs.{pairs_end, pairs-yes, pairs-no}
use Rattle.check_pairing.proofs.names.any_unpaired.Goals as goal

pub head_parts-p-requires : goal.head_parts-p-requires
head_parts-p-requires c =
    let p = c.requires.0 in
    let l = c.loop-at in
    along-fits _ l.at _ l.invariant c.loop-at-test.true p.0 p.1

pub returns-then-is_unpaired : goal.returns-then-is_unpaired
returns-then-is_unpaired c =
    let l = c.loop-at in
    let h = head_at _ _ _ c.loop-at-test.true c.head_parts-p.ensures in
    pairs-yes _ _ l.at l.invariant c.loop-at-test.true _ h _ c.is_unpaired.ensures c.if-is_unpaired.true

pub loop-at-preserved : goal.loop-at-preserved
loop-at-preserved c =
    let l = c.loop-at in
    let h = head_at _ _ _ c.loop-at-test.true c.head_parts-p.ensures in
    pairs-no _ _ l.at l.invariant c.loop-at-test.true _ h _ c.is_unpaired.ensures c.if-is_unpaired.false

pub returns : goal.returns
returns c = let l = c.loop-at in pairs_end _ _ l.at l.invariant c.loop-at-test.false
