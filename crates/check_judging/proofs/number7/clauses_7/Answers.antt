use mathlib.Core.List.{[], ◌∷◌}
use lib.Dec.{ltb}
use Rattle.state_keys.specs.Limits.{limits}
use Rattle.check_judging.proofs.number7.clauses_7.Goals as goal

pub returns : goal.returns
returns c =
    let a = c.args in
    let x = a.x in
    λ i. ltb limits.esp_policies x.policies.esps ∷ ltb limits.wrap_keys x.bags.wraps ∷ x.bags.overfull
    ∷ ltb limits.deleted_spis x.payloads.deletion.spis ∷ x.policies.long ∷ ltb limits.fresh_keys x.bags.fresh
    ∷ c.is_over-sas.ensures i ∷ []
