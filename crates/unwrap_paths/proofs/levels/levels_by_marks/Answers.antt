use Rattle.std.proofs.Common.{◌≡◌, false, refl, length, arith, rules, replicate}
use lib.ListN.{length-set, get_or-replicate}
use Rattle.state_keys.specs.Limits.{limits}
use Rattle.unwrap_paths.proofs.Turns.{known_start, bound-start, turn-less, turn-known, turn-bound, has-levels, some-untried}
use Rattle.unwrap_paths.proofs.levels.levels_by_marks.Goals as goal

-- `unwrap_paths::levels::levels_by_marks` meets its contract.

pub loop-j-init : goal.loop-j-init
loop-j-init c =
    let a = c.args in
    let e : length c.first_levels-levels.result ≡ limits.wrap_keys = search rules in (
      e,
      refl,
      bound-start a.n a.ids.now a.kwks.now a.marks.now c.first_levels-levels.result (replicate limits.wrap_keys false)
          c.first_levels-levels.ensures (λ i h. get_or-replicate limits.wrap_keys i false false (omega arith)),
      known_start a.n a.ids.now a.kwks.now a.marks.now c.first_levels-levels.result (replicate limits.wrap_keys false)
          c.first_levels-levels.ensures (λ i h. get_or-replicate limits.wrap_keys i false false (omega arith)),
    )

pub spread-levels-requires-clause-j_lt_n : goal.spread-levels-requires-clause-j_lt_n
spread-levels-requires-clause-j_lt_n c =
    let l = c.loop-j in
    let a = c.args in
    let f = c.in-Some.ensures in
    (f.inside, some-untried a.n a.ids.now a.kwks.now a.marks.now l.levels l.tried _ f l.invariant.2 l.invariant.1 c.requires.0)

pub loop-j-smaller : goal.loop-j-smaller
loop-j-smaller c =
    let l = c.loop-j in
    let a = c.args in
    turn-less a.n a.ids.now a.kwks.now a.marks.now l.levels l.tried _ c.in-Some.ensures (omega arith) c.spread-levels.result
    c.spread-levels.ensures

pub loop-j-preserved : goal.loop-j-preserved
loop-j-preserved c =
    let l = c.loop-j in
    let a = c.args in
    let f = c.in-Some.ensures in
    let e : length c.spread-levels.result ≡ limits.wrap_keys = search rules in (
      e,
      simp length-set l.invariant.1,
      turn-bound a.n a.ids.now a.kwks.now a.marks.now l.levels l.tried _ f (omega arith) c.spread-levels.result c.spread-levels.ensures
          l.invariant.2,
      turn-known a.n a.ids.now a.kwks.now a.marks.now l.levels l.tried _ f (omega arith) c.spread-levels.result c.spread-levels.ensures
          l.invariant.3,
    )

pub returns : goal.returns
returns c =
    let l = c.loop-j in
    let a = c.args in
    has-levels a.n a.ids.now a.kwks.now a.marks.now l.levels l.tried l.invariant.3 l.invariant.2 c.in_default.ensures
