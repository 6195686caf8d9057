use Rattle.std.proofs.Common.{ap, ◌∙◌}
use Rattle.wire_policies.specs.Selector.{selector_size}
use Rattle.wire_readers.proofs.BodiesLaws.{transforms-are, parts_are}
use Rattle.wire_readers.proofs.body.sa_parts.Goals as goal

pub transforms_end-e-requires : goal.transforms_end-e-requires
transforms_end-e-requires c = (
  c.requires.1.suite.transforms,
  c.requires.2.tail,
  transforms-are c.requires.0 c.args.s.now c.requires.1 c.requires.2 _ (c.selector_size-d.ensures.0 ∙ ap selector_size c.wide.ensures.0) _
      (c.selector_size.ensures.0 ∙ ap selector_size c.wide-2.ensures.0),
)

pub returns : goal.returns
returns c p x i =
    let s = c.args.s.now in
    let d = c.selector_size-d.ensures.0 ∙ ap selector_size c.wide.ensures.0 in
    let e = c.selector_size.ensures.0 ∙ ap selector_size c.wide-2.ensures.0 in
    let t = c.transforms_end-e in
    parts_are p s x i _ d _ e t.result t.ensures.0 (t.ensures.1 x.suite.transforms i.tail (transforms-are p s x i _ d _ e))
