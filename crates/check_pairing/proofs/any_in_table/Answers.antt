use Rattle.std.proofs.Common.{rules, tests, take, ◌∙◌}
use Rattle.std.proofs.lemmas.Iterator.{YieldsList-from_slice}
use Rattle.std.proofs.lemmas.Iterator.Search.{any_from_yields_List}
use Rattle.lists.proofs.Chains.{any-from_list}
use Rattle.check_pairing.specs.inner.Names.{is_announced}
use Rattle.check_pairing.proofs.any_in_table.Goals as goal

pub returns : goal.returns
returns c = λ l n.
    let a = c.args in
    let sas = take a.t.count a.t.sas in
    let test = is_announced a.tick l in
    any_from_yields_List test _ _ _ c.any.ensures.ran (YieldsList-from_slice sas cc) (λ x b q k. search (rules, tests, n))
    ∙ any-from_list test sas
