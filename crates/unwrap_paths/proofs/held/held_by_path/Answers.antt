use native.Mathlib.Omega.{arith}
use Prim.Native.Nat.{◌≤◌, ◌<◌}
use mathlib.Core.Path.{◌≡◌}
use lib.ListN.{length}
use Rattle.state_keys.specs.Limits.{limits}
use Rattle.unwrap_paths.specs.inner.Holding.{held_at}
use Rattle.unwrap_paths.proofs.Lowering.{level-within}
use Rattle.unwrap_paths.proofs.Telling.{formed-few, trail-fits, made-of-keys, made-few, keys-few, answer-none, answer-some}
use borrow.Author.Rules.{rules}
use Rattle.unwrap_paths.proofs.held.held_by_path.Goals as goal

-- `unwrap_paths::held::held_by_path` meets its contract.

pub path-trail-requires : goal.path-trail-requires
path-trail-requires c =
    let l = c.args.links in
    let a = c.nearest_of-start.result in
    let h = level-within l.count limits.wrap_keys l.ids l.levels a.kwk a.level c.requires.links_fit.within
    c.nearest_of-start.ensures.has in
    record {
      links_fit = c.requires.links_fit;
      level_le_wrap_keys = h;
    }

pub returns-then-trail-eq0 : goal.returns-then-trail-eq0
returns-then-trail-eq0 c roots l size copies kept openers =
    let p = c.path-trail in
    let n = c.nearest_of-start in
    let a = c.args in
    answer-none a.links a.reached a.old a.kwks.now n.result n.ensures p.result p.ensures roots l size copies kept
    openers (formed-few a.old c.requires.value) c.if-trail-eq0.true

pub path_keys-keys-requires : goal.path_keys-keys-requires
path_keys-keys-requires c =
    let p = c.path-trail in
    let n = c.nearest_of-start in
    trail-fits c.args.links n.result p.result c.requires.links_fit p.ensures

pub path_end-end-requires : goal.path_end-end-requires
path_end-end-requires c =
    let p = c.path-trail in
    let n = c.nearest_of-start in
    let f = c.if-trail-eq0.false in
    let h : 0 < p.result.count = omega (arith, f) in
    record {
      trail_fits = trail-fits c.args.links n.result p.result c.requires.links_fit p.ensures;
      count_nonzero = h;
    }

pub path_before-requires : goal.path_before-requires
path_before-requires c =
    let k = c.path_keys-keys in
    let p = c.path-trail in
    let a = c.args in
    let e : length p.result.places ≡ limits.wrap_keys = search rules in
    let f : p.result.count ≤ length p.result.places = omega (arith, e, p.ensures.few) in
    let g = keys-few (held_at a.links.ids a.reached) p.result.count p.result.places f in record {
      count_le_held_keys = (made-few k.result _ k.ensures (omega (arith, g, p.ensures.few)), made-of-keys k.result _ k.ensures);
      count_le_held_keys_2 = formed-few a.old c.requires.value;
    }

pub returns : goal.returns
returns c roots l size copies kept openers =
    let b = c.path_before in
    let e = c.path_end-end in
    let k = c.path_keys-keys in
    let z = c.if-trail-eq0.false in
    let p = c.path-trail in
    let n = c.nearest_of-start in
    let a = c.args in
    let h : 0 < p.result.count = omega (arith, z) in
    let g : length p.result.places ≡ limits.wrap_keys = search rules in
    let f : p.result.count ≤ length p.result.places = omega (arith, g, p.ensures.few) in
    answer-some a.links a.reached a.old a.kwks.now n.result n.ensures p.result p.ensures roots l size copies kept
    openers h f k.result k.ensures e.result e.ensures b.result b.ensures
