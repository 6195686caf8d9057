use Rattle.std.proofs.Common.{◌≡◌, ◌-◌, ◌+◌, arith}
use lib.ListN.{length-set}
use Rattle.unwrap_paths.proofs.WayBack.{inside-next, way_next, way_end}
use Rattle.unwrap_paths.proofs.back.way_back.Goals as goal

-- `unwrap_paths::back::way_back` meets its contract.

pub loop-count-preserved : goal.loop-count-preserved
loop-count-preserved c =
    let l = c.loop-count in
    let a = c.args in
    let f = c.in-Some.ensures in
    let e : a.level - l.count - 1 ≡ a.level - (l.count + 1) = omega arith in (
      simp length-set l.invariant.0,
      inside-next a.n l.places l.count c.in-Some.i (omega arith) f.inside l.invariant.1,
      rw (← e) (way_next a.n a.ids.now a.kwks.now a.levels.now a.id a.level l.places l.count l.at (a.level - l.count) c.in-Some.i
          (omega arith) (omega arith) f l.invariant.2),
    )

pub returns : goal.returns
returns c =
    let l = c.loop-count in
    let a = c.args in
    let e : l.count ≡ a.level = omega arith in
    record {
      few = c.requires.level_le_wrap_keys;
      inside = rw (← e) l.invariant.1;
      reads = λ opened is_root is d.
          let r = way_end a.n a.ids.now a.kwks.now a.levels.now a.id a.level l.places l.count l.at (a.level - l.count) (omega arith)
          l.invariant.2 opened is_root is d in
          rw e at r;
    }
