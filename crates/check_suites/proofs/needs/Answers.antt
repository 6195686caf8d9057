use native.Mathlib.Omega.{arith}
use mathlib.Core.Path.{ap}
use lib.ListN.{length, drop, length-drop}
use Rattle.octets.proofs.Walks.{to_end}
use Rattle.check_suites.proofs.PolicyLaws.{transforms-start, transforms-are}
use Rattle.check_suites.proofs.needs.Goals as goal

pub slice_bounds-transforms_need-count : goal.slice_bounds-transforms_need-count
slice_bounds-transforms_need-count c =
    let r = c.sa_parts-t in
    transforms-start c.requires.1.0 c.args.x.now c.requires.1.1 r.result (r.ensures c.requires.1.0 c.requires.1.1 c.requires.1.2)

pub slice_bounds-transforms_need-start : goal.slice_bounds-transforms_need-start
slice_bounds-transforms_need-start c =
    let r = c.sa_parts-t in
    transforms-start c.requires.1.0 c.args.x.now c.requires.1.1 r.result (r.ensures c.requires.1.0 c.requires.1.1 c.requires.1.2)

pub transforms_need-requires : goal.transforms_need-requires
transforms_need-requires c =
    let r = c.sa_parts-t in
    let s = c.args.x.now in (
      omega (arith, c.requires.0, ap length (to_end s r.result.transforms), length-drop r.result.transforms s),
      (
        c.requires.1.1.suite.transforms,
        drop r.result.attributes s,
        transforms-are c.requires.1.0 s c.requires.1.1 r.result (r.ensures c.requires.1.0 c.requires.1.1 c.requires.1.2),
      ),
    )

pub returns : goal.returns
returns c p b i =
    let r = c.sa_parts-t in
    let s = c.args.x.now in
    c.transforms_need.ensures b.suite.transforms (drop r.result.attributes s)
    (transforms-are p s b r.result (r.ensures p b i))
