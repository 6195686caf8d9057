use Rattle.std.proofs.Common.{rules, tests, ◌∙◌, take}
use Rattle.std.proofs.lemmas.Iterator.{YieldsList-from_slice}
use Rattle.std.proofs.lemmas.Iterator.Search.{any_from_yields_List}
use Rattle.lists.proofs.Chains.{any-from_list}
use Rattle.check_admission.specs.inner.Steps.{is_over}
use Rattle.check_admission.proofs.Laws.{over-among}
use Rattle.check_admission.proofs.number2.has_live_rekey.Goals as goal

pub returns : goal.returns
returns c =
    let a = c.args in
    let l = take a.t.count a.t.sas in
    let test = is_over a.tick a.spi.now in
    any_from_yields_List test _ _ _ c.any.ensures.ran (YieldsList-from_slice l cc) (λ x b q k. search (rules, tests))
    ∙ any-from_list test l ∙ over-among a.tick a.spi.now l
