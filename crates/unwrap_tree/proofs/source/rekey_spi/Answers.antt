use Rattle.unwrap_sas.proofs.PolicyAt.{policy-at}
use Rattle.unwrap_tree.proofs.SourceLaws.{walk_end, walk-next, walk-found}
use Rattle.unwrap_tree.proofs.source.rekey_spi.Goals as goal

pub returns-then-p-eq-GIKE_UPDATE : goal.returns-then-p-eq-GIKE_UPDATE
returns-then-p-eq-GIKE_UPDATE c =
    let l = c.loop-at in
    walk-found _ l.at l.invariant _ (policy-at _ _ _ c.policy_parts-p.ensures) c.if-p-eq-GIKE_UPDATE.true

pub loop-at-preserved : goal.loop-at-preserved
loop-at-preserved c =
    let l = c.loop-at in
    walk-next _ l.at l.invariant _ (policy-at _ _ _ c.policy_parts-p.ensures) c.if-p-eq-GIKE_UPDATE.false

pub returns : goal.returns
returns c = let l = c.loop-at in walk_end _ l.at l.invariant c.loop-at-test.false
