use Rattle.std.proofs.Common.{◌≡◌, ◌+◌, ◌-◌, ◌<◌, length, get_or, take, drop, arith, length-take, length-drop, get_or-take, get_or-drop, ℕ}
use Rattle.octets.specs.Numbers.{oct}
use Rattle.unwrap_paths.proofs.Nearing.{nearest-next}
use Rattle.unwrap_paths.proofs.nearest.nearest_of.Goals as goal

-- `unwrap_paths::nearest::nearest_of` meets its contract.

pub loop-kwk-preserved : goal.loop-kwk-preserved
loop-kwk-preserved c =
    let a = c.args in
    let i = c.loop-kwk.kwk-index in
    let h : i < length a.kwks.now - 1 = omega (arith, length-take {A = ℕ}, length-drop {A = ℕ}) in
    let e : 1 + i ≡ i + 1 = omega arith in
    let k : get_or (take (length a.kwks.now - 1) (drop 1 a.kwks.now)) i 0 ≡ oct a.kwks.now (i + 1) =
    rw (get_or-take, get_or-drop, e) in
    nearest-next a.links.count a.links.ids a.links.levels a.kwks.now _ c.loop-kwk.best c.nearer-best.result _ c.level_of-level.result k
    c.level_of-level.ensures c.nearer-best.ensures c.loop-kwk.invariant
