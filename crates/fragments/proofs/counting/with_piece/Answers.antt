use Rattle.std.proofs.Common.{◌∙◌}
use Rattle.std.proofs.lemmas.List.{take_rest}
use Rattle.fragments.specs.Collection.{blank_piece}
use Rattle.fragments.proofs.CountLaws.{inserted}
use Rattle.fragments.proofs.counting.with_piece.Goals as goal

pub returns : goal.returns
returns c =
    let l = c.args.pieces.now in
    let k = c.pieces_ahead-ahead.result in
    inserted c.args.a blank_piece l c.copy_from_slice.new.self _ 32 k c.pieces_ahead-ahead.ensures c.requires
    c.copy_from_slice.ensures.after (c.copy_from_slice-2.ensures.after ∙ take_rest l k)
