use Rattle.std.proofs.Common.{rules, tests, leb}
use Rattle.std.proofs.lemmas.Iterator.{YieldsList-from_slice}
use Rattle.std.proofs.lemmas.Iterator.Consumers.{count_from_yields_List}
use Rattle.std.proofs.lemmas.Iterator.Search.{YieldsList-from_take_while}
use Rattle.fragments.specs.declared.Piece.{Piece}
use Rattle.fragments.proofs.CountLaws.{ahead-count}
use Rattle.fragments.proofs.counting.pieces_ahead.Goals as goal

pub returns : goal.returns
returns c =
    let l = c.args.pieces.now in
    let test = λ (p : Piece). leb p.number c.args.number in
    ahead-count c.args.number l c.count.result
    (count_from_yields_List _ _ c.count.ensures.ran
    (YieldsList-from_take_while _ test (YieldsList-from_slice l cc) c.take_while.ensures.closure c.take_while.ensures.done
    (λ x b q k. search (rules, tests))))
