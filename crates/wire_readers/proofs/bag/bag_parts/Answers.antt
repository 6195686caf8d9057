use Rattle.wire_readers.proofs.BagsLaws.{fits-first, bag-is}
use Rattle.wire_readers.proofs.bag.bag_parts.Goals as goal

pub head_parts-requires : goal.head_parts-requires
head_parts-requires c =
    let p = c.requires in
    fits-first p.1.0 c.args.s.now p.1.1 p.0

pub returns : goal.returns
returns c = λ fresh e. bag-is fresh c.args.s.now e c.requires.0 _ c.head_parts.ensures
