use Rattle.std.proofs.Common.{rules}
use Rattle.std.proofs.lemmas.List.Sorted.{answers_always}
use Rattle.fragments.specs.Collection.{piece_before}
use Rattle.lists.proofs.Chains.{rising-from_answer}
use Rattle.fragments.proofs.counting.are_rising.Goals as goal

pub returns : goal.returns
returns c =
    rising-from_answer piece_before c.args.pieces.now c.is_sorted_by.result
    (c.is_sorted_by.ensures.cases piece_before (answers_always _ _ _ (λ f a r g h. search rules)))
