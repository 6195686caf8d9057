use Rattle.std.proofs.Common.{rules, tests, ◌∙◌}
use Rattle.std.proofs.lemmas.Iterator.{YieldsList-from_slice}
use Rattle.std.proofs.lemmas.Iterator.Search.{all_from_yields_List}
use Rattle.lists.proofs.Chains.{all-from_list}
use Rattle.fragments.specs.Collection.{numbered}
use Rattle.fragments.proofs.counting.are_numbered.Goals as goal

pub returns : goal.returns
returns c =
    let l = c.args.pieces.now in
    let test = numbered c.args.total in
    all_from_yields_List test _ _ _ c.all.ensures.ran (YieldsList-from_slice l cc) (λ x b q k. search (rules, tests)) ∙ all-from_list test l
