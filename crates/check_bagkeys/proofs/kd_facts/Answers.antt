use Rattle.check_bagkeys.proofs.BagAt.{bag-there, bag-at}
use Rattle.check_bagkeys.proofs.BagLaws.{bags-start, bags-end, bags-next}
use Rattle.check_bagkeys.proofs.PlaceLaws.{sought-start, sought-end, sought-next}
use Rattle.check_bagkeys.proofs.kd_facts.Goals as goal

pub loop-at-init : goal.loop-at-init
loop-at-init c = record { bags = bags-start _ _ _ c.requires _ c.no_bags-f.ensures; found = sought-start _ _ }

pub loop-at-preserved : goal.loop-at-preserved
loop-at-preserved c =
    let a = c.args in
    let l = c.loop-at in
    let there = bag-there a.fresh a.kd.now l.at c.loop-at-test.true l.invariant.bags.rest in
    let b = bag-at _ _ _ _ c.loop-at-test.true (c.bag_parts-p.ensures a.fresh there.1) in
    record {
      bags = bags-next _ _ _ l.f l.at l.invariant.bags _ b _ c.of_bag.ensures _ c.merge-f.ensures;
      found = sought-next _ _ l.found l.at l.invariant.found c.loop-at-test.true _ b _ c.first_member-found.ensures;
    }

pub returns : goal.returns
returns c =
    let l = c.loop-at in
    let e = bags-end _ _ _ l.f l.at l.invariant.bags c.loop-at-test.false in
    let m = sought-end _ _ l.found l.at l.invariant.found c.loop-at-test.false in
    λ i. record { bags = e i; member_bag = m i }
