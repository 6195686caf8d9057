use Rattle.std.proofs.Common.{◌≡◌, rules, tests}
use Rattle.std.proofs.lemmas.Iterator.{cases_from_any, YieldsList-from_slice}
use Rattle.unwrap_search.specs.declared.open.Entry.{Entry}
use Rattle.unwrap_search.proofs.Starting.{carried-told}
use Rattle.unwrap_search.proofs.search.is_carried.Goals as goal

pub returns : goal.returns
returns c frame l lists =
    let places = c.args.entries.now in
    carried-told frame places c.args.id _
    (cases_from_any _ _ _ (λ (e : Entry). e.id ≡ c.args.id) (λ (e : Entry). e.id ≡ c.args.id → ⊥) c.any.ensures.ran
    (YieldsList-from_slice places cc) (λ x q k. search (rules, tests)) (λ x q k. search (rules, tests)))
    l lists
