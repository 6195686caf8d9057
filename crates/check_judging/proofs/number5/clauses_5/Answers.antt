use mathlib.Core.Bool.{◌&&◌, not}
use mathlib.Core.List.{[], ◌∷◌}
use Rattle.check_judging.proofs.number5.clauses_5.Goals as goal

pub returns : goal.returns
returns c =
    let a = c.args in
    let x = a.x in
    let d = x.payloads.deletion in
    λ i. x.policies.ah ∷ x.bags.ah ∷ x.policies.unfit ∷ d.other ∷ d.none
    ∷ (a.row.judges_lent_key && not (c.is_size.ensures i)) ∷ []
