use Rattle.std.proofs.Common.{◌≡◌, ap, sym, ◌∙◌, subst, List, ◌<◌, length, drop, map, arith}
use lib.ListN.{set, length-set}
use Rattle.state_keys.specs.Limits.{limits}
use Rattle.octets.specs.Walk.{part}
use Rattle.wire_attributes.specs.Tree.{WrapKey, wrap_key_of}
use Rattle.unwrap_search.specs.inner.Entries.{Lists}
use Rattle.unwrap_tree.specs.inner.Entries.{bag_keys}
use Rattle.unwrap_tree.proofs.Gathering.{Gathered, gathered_next, gathered-all, taken-inside, taken-part, taken-first}
use Rattle.unwrap_tree.proofs.entries.entries.Goals as goal

pub loop-x-preserved : goal.loop-x-preserved
loop-x-preserved c =
    let a = c.args in
    let k = a.kd.now in
    let l = c.loop-x in
    let h = c.requires.1 in
    let m = c.in-Some.ensures in
    let f = m.value in
    let s = part k a.source.bag.start a.source.bag.end in
    let v = c.attribute_value.ensures.result_value ∙ m.octets in
    let i = taken-inside _ _ h.wrapped k _ _ h.order h.inside l.at _ _ f in
    let e = taken-first _ _ h.wrapped k _ _ h.order h.inside l.at _ _ f _ v in
    let is = c.entry.ensures k i.1 (taken-part _ _ h.wrapped k _ _ h.order h.inside l.at _ _ f _ v) in
    let room : l.n < limits.wrap_keys = omega (arith, l.invariant.3, ap length e) in
    let n : length (set l.places l.n c.entry.result) ≡ limits.wrap_keys = length-set l.places l.n c.entry.result ∙ l.invariant.0 in (
      n,
      f.inside,
      f.rest,
      omega (arith, l.invariant.3, ap length e),
      gathered_next k l.places l.n (bag_keys a.source.meaning a.source.place (drop c.in-Some.x.end s)) (bag_keys a.source.meaning a.source.place s) c.entry.result
          (wrap_key_of c.attribute_value.result.now)
          (subst (λ (x : List WrapKey). Gathered k l.places l.n x (bag_keys a.source.meaning a.source.place s)) e l.invariant.4)
          room (omega (arith, l.invariant.0, room)) is,
    )

pub returns : goal.returns
returns c l h =
    let k = c.args.kd.now in
    let u = c.loop-x in
    let s = part k c.args.source.bag.start c.args.source.bag.end in
    subst (Lists k u.places u.n) (sym h.keys)
    (gathered-all k u.places u.n (bag_keys c.args.source.meaning c.args.source.place (drop u.at s)) (bag_keys c.args.source.meaning c.args.source.place s) u.invariant.4
    (ap (map wrap_key_of) c.in_default.ensures.0))
