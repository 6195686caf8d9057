use Rattle.std.proofs.Common.{rules, tests, eqb, ℕ, ◌∙◌}
use Rattle.std.proofs.lemmas.Iterator.{YieldsList-from_slice}
use Rattle.std.proofs.lemmas.Iterator.Search.{all_from_yields_List}
use Rattle.lists.proofs.Chains.{all-from_list}
use Rattle.apply.proofs.retiring.is_zero.Goals as goal

pub returns : goal.returns
returns c =
    let x = c.args.x.now in
    let test = λ (o : ℕ). eqb o 0 in
    all_from_yields_List test _ _ _ c.all.ensures.ran (YieldsList-from_slice x cc) (λ y b q k. search (rules, tests)) ∙ all-from_list test x
