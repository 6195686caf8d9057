use Rattle.check_composition.proofs.WalkLaws.{policy-at}
use Rattle.check_composition.proofs.FactLaws.{holds-one, policies-end, policies-next}
use Rattle.check_composition.proofs.policy_facts.Goals as goal

pub of_policy-requires : goal.of_policy-requires
of_policy-requires c = holds-one _ _ _ (policy-at _ _ _ c.loop-at.invariant.inside c.policy_parts-p.ensures)

pub loop-at-preserved : goal.loop-at-preserved
loop-at-preserved c =
    let l = c.loop-at in
    let q = policy-at _ _ _ l.invariant.inside c.policy_parts-p.ensures in
    policies-next _ _ l.f l.at l.invariant _ q _ c.of_policy.ensures _ c.merge-f.ensures

pub returns : goal.returns
returns c = let l = c.loop-at in policies-end _ _ l.f l.at l.invariant c.loop-at-test.false
