use Rattle.check_bagkeys.proofs.BagAt.{bag-there, bag-at}
use Rattle.check_pairing.proofs.Places.{going_start, going_end, going-yes, going-no}
use Rattle.check_pairing.proofs.stretch.bag_stretch.Goals as goal

pub loop-at-init : goal.loop-at-init
loop-at-init c = going_start _ _ _ c.requires.0 c.requires.1

pub returns-then-is_named : goal.returns-then-is_named
returns-then-is_named c =
    let l = c.loop-at in
    let h = c.loop-at-test.true in
    let there = bag-there l.invariant.fresh c.args.kd.now l.at h l.invariant.rest in
    let b = bag-at _ _ _ _ h (c.bag_parts-p.ensures l.invariant.fresh there.1) in
    going-yes _ _ _ l.at l.invariant h _ b _ c.is_named.ensures c.if-is_named.true

pub loop-at-preserved : goal.loop-at-preserved
loop-at-preserved c =
    let l = c.loop-at in
    let h = c.loop-at-test.true in
    let there = bag-there l.invariant.fresh c.args.kd.now l.at h l.invariant.rest in
    let b = bag-at _ _ _ _ h (c.bag_parts-p.ensures l.invariant.fresh there.1) in
    going-no _ _ _ l.at l.invariant h _ b _ c.is_named.ensures c.if-is_named.false

pub returns : goal.returns
returns c = let l = c.loop-at in going_end _ _ _ l.at l.invariant c.loop-at-test.false
