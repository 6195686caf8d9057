use lib.ListN.{length}
use Rattle.unwrap_search.specs.inner.Search.{cell_at}
use Rattle.unwrap_search.proofs.Searching.{undone}
use Rattle.unwrap_search.proofs.Turning.{Keeps}
use Rattle.unwrap_search.proofs.search.search.Given as goal

abbrev pub invariant-loop-i : goal.invariant-loop-i
invariant-loop-i l = Keeps l.frame l.ids l.block l.entries l.fn.lent l.i l.cells

abbrev pub invariant-loop-j : goal.invariant-loop-j
invariant-loop-j l = Keeps l.frame l.ids l.block l.entries l.fn.lent (length l.ids) l.cells

abbrev pub decreases-loop-j : goal.decreases-loop-j
decreases-loop-j l = undone (length l.entries) (cell_at l.cells)
