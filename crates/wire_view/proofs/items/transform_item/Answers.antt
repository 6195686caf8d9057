use Rattle.wire_view.proofs.TransformLaws.{held, shown-is}
use Rattle.wire_view.proofs.items.transform_item.Goals as goal

pub count_of-requires : goal.count_of-requires
count_of-requires c =
    let w = c.wide-kind in
    let p = c.in_transform-place in
    held c.args.s.now c.requires.0 c.requires.1 c.requires.2 w.result w.ensures.0 p.result p.ensures

pub key_length-requires : goal.key_length-requires
key_length-requires c =
    let w = c.wide-kind in
    let p = c.in_transform-place in
    held c.args.s.now c.requires.0 c.requires.1 c.requires.2 w.result w.ensures.0 p.result p.ensures

pub returns : goal.returns
returns c =
    let s = c.args.s.now in
    let w = c.wide-kind in
    let p = c.in_transform-place in
    λ t more i. shown-is s t more i w.result w.ensures.0 p.result p.ensures c.be16_at.result
    c.count_of.result c.key_length.result c.be16_at.ensures.0 c.count_of.ensures
    c.key_length.ensures
