use Rattle.std.proofs.Common.{rules, tests, eqb, ◌∙◌}
use Rattle.std.proofs.lemmas.Iterator.{YieldsList-from_slice}
use Rattle.std.proofs.lemmas.Iterator.Search.{any_from_yields_List}
use Rattle.lists.proofs.Chains.{any-from_list}
use Rattle.fragments.specs.declared.Piece.{Piece}
use Rattle.fragments.proofs.counting.has_number.Goals as goal

pub returns : goal.returns
returns c =
    let l = c.args.pieces.now in
    let test = λ (p : Piece). eqb p.number c.args.number in
    any_from_yields_List test _ _ _ c.any.ensures.ran (YieldsList-from_slice l cc) (λ x b q k. search (rules, tests)) ∙ any-from_list test l
