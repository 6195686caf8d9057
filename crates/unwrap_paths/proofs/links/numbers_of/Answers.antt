use Rattle.std.proofs.Common.{refl, arith}
use lib.ListN.{length-set}
use Rattle.unwrap_search.specs.inner.Entries.{no_entry}
use Rattle.unwrap_search.specs.inner.Opened.{no_cell}
use Rattle.unwrap_search.proofs.Statuses.{get_d_any}
use Rattle.unwrap_paths.proofs.Linking.{linked-next}
use Rattle.unwrap_paths.proofs.links.numbers_of.Goals as goal

-- `unwrap_paths::links::numbers_of` meets its contract.

pub loop-i-preserved : goal.loop-i-preserved
loop-i-preserved c =
    let l = c.loop-i in
    let a = c.args in
    let m = c.loop-i-test.true in (
      simp length-set l.invariant.0,
      simp length-set l.invariant.1,
      simp length-set l.invariant.2,
      linked-next _ a.entries.now a.cells.now l.ids l.kwks l.marks l.i (omega arith) (omega arith) (omega arith) _ _ c.mark.result
          c.is_carried.result (get_d_any a.entries.now l.i _ no_entry (omega arith)) (get_d_any a.cells.now l.i _ no_cell (omega arith))
          c.is_carried.ensures c.mark.ensures l.invariant.3,
    )
