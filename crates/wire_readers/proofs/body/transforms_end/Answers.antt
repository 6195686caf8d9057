use Rattle.wire_readers.proofs.BodiesLaws.{next-inside, behind-last}
use Rattle.wire_readers.proofs.body.transforms_end.Goals as goal

pub returns-then-not-t : goal.returns-then-not-t
returns-then-not-t c =
    let a = c.loop-at in
    let s = c.args.s.now in
    let t = c.transform_parts-t in
    let f = a.invariant.1 c.requires.0 c.requires.1 c.requires.2 in (
      next-inside s a.at f.0 c.requires.1 t.result (t.ensures f.0 c.requires.1) f.1,
      λ l tail x.
          let y = a.invariant.1 l tail x in
          behind-last s a.at y.0 tail t.result (t.ensures y.0 tail) y.1 c.if-not-t.true,
    )
