use native.Mathlib.Omega.{arith}
use Rattle.unwrap_search.proofs.Loops.{partly-next, partly-all, entry_at}
use Rattle.unwrap_search.proofs.search.try_on_all.Goals as goal

pub loop-i-preserved : goal.loop-i-preserved
loop-i-preserved c k v h x =
    let l = c.loop-i in
    let a = c.args in
    let n = c.requires.entries_le_cells in
    let m = c.loop-i-test.true in
    partly-next a.id v a.size k a.cells.now l.cells l.i _ c.try_on_entry.result (omega arith)
    (c.try_on_entry.ensures _ v (entry_at a.frame.now a.entries.now _ k h l.i _ m m) x)
    (l.invariant k v h x)

pub returns : goal.returns
returns c k v h x =
    let l = c.loop-i in
    let a = c.args in
    let m = c.loop-i-test.false in
    partly-all a.id v a.size k a.cells.now l.cells l.i (let z = h.count in omega arith) (l.invariant k v h x)
