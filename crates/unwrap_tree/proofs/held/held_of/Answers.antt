use native.Mathlib.Omega.{arith}
use Prim.Native.Nat.{ℕ}
use mathlib.Core.Path.{◌≡◌, subst}
use lib.ListN.{length}
use Rattle.unwrap_search.specs.declared.open.Entry.{Entry}
use Rattle.unwrap_search.specs.declared.open.Cell.{Cell}
use Rattle.unwrap_conflicts.proofs.Clashing.{both_at}
use Rattle.unwrap_tree.specs.inner.Joins.{Joins}
use Rattle.unwrap_tree.proofs.Entering.{Entered, entered-none, entered-next}
use Rattle.unwrap_tree.proofs.Standing.{held-are, are-formed}
use Rattle.unwrap_tree.proofs.held.held_of.Goals as goal

-- `unwrap_tree::held::held_of` meets its contract.

pub loop-i-init : goal.loop-i-init
loop-i-init c = entered-none c.args.entries.now c.args.cells.now c.new-held.result c.new-held.ensures

pub loop-i-preserved : goal.loop-i-preserved
loop-i-preserved c =
    let l = c.loop-i in
    let a = c.args in
    let m = c.loop-i-test.true in
    entered-next a.entries.now a.cells.now l.i l.held l.invariant (omega arith) c.with_cell-held.result
    (both_at a.cells.now l.i _ (omega arith) (λ (e : Entry) (d : Cell). Joins e d l.held c.with_cell-held.result) a.entries.now _
    (omega arith) c.with_cell-held.ensures)

pub returns : goal.returns
returns c frame roots l size lists s nonzero fit none =
    let a = c.args in
    let u = c.loop-i in
    let e : u.i ≡ length a.entries.now = omega arith in
    let x = subst (λ (m : ℕ). Entered a.entries.now a.cells.now m u.held) e u.invariant in (
      held-are frame a.entries.now _ a.cells.now roots l size lists s nonzero fit none u.held x,
      are-formed frame a.entries.now _ a.cells.now roots l size lists s nonzero fit none u.held x,
    )
