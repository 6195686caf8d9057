use native.Mathlib.Omega.{arith}
use Prim.Native.Nat.{ℕ, ◌+◌, ◌<◌}
use mathlib.Core.Path.{◌≡◌, sym, ◌∙◌, subst}
use mathlib.Core.List.{List}
use lib.ListN.{length}
use Rattle.octets.specs.Octets.{Octets}
use Rattle.state_keys.specs.Kinds.{value_of}
use Rattle.state.specs.Held.{keys_of}
use Rattle.unwrap_lending.proofs.Blocks.{ids-length}
use Rattle.unwrap_search.specs.declared.open.Cell.{Cell}
use Rattle.unwrap_search.specs.inner.Search.{NonePending}
use Rattle.unwrap_search.proofs.Searching.{is-key-size, fell-next, places-most, pending-first, none-first}
use Rattle.unwrap_search.proofs.Turning.{Keeps, keeps-zero, keeps-passed, keeps-root, keeps-cell, keeps-count, all_found, held-sized}
use Rattle.unwrap_search.proofs.search.search.Goals as goal
use Rattle.unwrap_search.proofs.search.search.Goals.{then-not-is_carried, else-not-is_carried}

-- `unwrap_search::search::search` meets its contract. The invariants speak of any entries and any held list that the arguments stand for.
-- The measure is the count of cells that are not done.

pub loop-i-init : goal.loop-i-init
loop-i-init c =
    let a = c.args in
    keeps-zero a.frame.now a.ids.now a.block.now a.entries.now a.lent _ c.blank-cells.ensures _ c.try_key.ensures

-- ---- the key at place i
pub try_key-requires-then-not-is_carried-clause-tables_value :
    goal.try_key-requires-then-not-is_carried-clause-tables_value
try_key-requires-then-not-is_carried-clause-tables_value c =
    let a = c.args in
    let p = c.requires.lends_held in
    let n = ids-length (keys_of p.0) a.ids.now a.block.now p.1.lends in
    let h = c.loop-i-test.true in
    let g : c.loop-i.i < length (keys_of p.0) = omega arith in (
      c.inverse_tables-tables.ensures,
      (c.key_at-key.ensures (keys_of p.0) a.ids.now p.1.lends g (held-sized p.0 p.1.formed c.loop-i.i g)).size,
    )

pub loop-i-preserved : goal.loop-i-preserved
loop-i-preserved c =
    let a = c.args in
    let l = c.loop-i in
    let K : List Cell → Type 0 = Keeps a.frame.now a.ids.now a.block.now a.entries.now a.lent (l.i + 1) in
    elim c.if-not-is_carried.branch [
      | then-not-is_carried w ↦
          subst K (sym w.cells-is)
          (keeps-root a.frame.now a.ids.now a.block.now a.entries.now a.lent l.i c.loop-i-test.true l.cells l.invariant
          (λ t x. sym (c.is_carried.ensures a.frame.now t x) ∙ w.if-not-is_carried.true)
          w.key_at-key.result (λ keys s. w.key_at-key.ensures keys a.ids.now s) _ w.try_key-then-not-is_carried.ensures)
      | else-not-is_carried w ↦
          subst K (sym w.cells-is)
          (keeps-passed a.frame.now a.ids.now a.block.now a.entries.now a.lent l.i c.loop-i-test.true l.cells l.invariant
          (λ t x. sym (c.is_carried.ensures a.frame.now t x) ∙ w.if-not-is_carried.false))
    ]

pub loop-j-init : goal.loop-j-init
loop-j-init c =
    let a = c.args in
    let l = c.loop-i in
    let e : l.i ≡ length a.ids.now = omega arith in
    subst (λ (n : ℕ). Keeps a.frame.now a.ids.now a.block.now a.entries.now a.lent n l.cells) e l.invariant

-- ---- the key of a pending cell
pub try_key-requires-in-Some-clause-tables_value :
    goal.try_key-requires-in-Some-clause-tables_value
try_key-requires-in-Some-clause-tables_value c =
    let a = c.args in
    let l = c.loop-j in
    let r = c.requires.lists in
    let p = c.requires.lends_held in
    let most = places-most a.frame.now a.entries.now r.0 r.1 in
    let at = pending-first l.cells (length a.entries.now) c.in-Some.j (omega arith) c.in-Some.ensures in (
      c.inverse_tables-tables.ensures,
      keeps-count a.frame.now a.ids.now a.block.now a.entries.now a.lent (length a.ids.now) l.cells l.invariant l.array_long
          c.in-Some.j at _ c.requires.key r.0 p.0 p.1 (λ i. (c.type_inv.block i).fits) c.requires.count_value r.1,
    )

pub loop-j-smaller : goal.loop-j-smaller
loop-j-smaller c =
    let a = c.args in
    let l = c.loop-j in
    let r = c.requires.lists in
    let most = places-most a.frame.now a.entries.now r.0 r.1 in
    let at = pending-first l.cells (length a.entries.now) c.in-Some.j (omega arith) c.in-Some.ensures in
    fell-next r.0 (length a.entries.now) _ _ a.lent.count l.cells c.try_key-in-Some.new.cells c.in-Some.j _
    r.1.count at (omega arith) (c.try_key-in-Some.ensures r.0 r.1)

pub loop-j-preserved : goal.loop-j-preserved
loop-j-preserved c =
    let a = c.args in
    let l = c.loop-j in
    let r = c.requires.lists in
    let most = places-most a.frame.now a.entries.now r.0 r.1 in
    let at = pending-first l.cells (length a.entries.now) c.in-Some.j (omega arith) c.in-Some.ensures in
    keeps-cell a.frame.now a.ids.now a.block.now a.entries.now a.lent (length a.ids.now) l.cells l.invariant l.array_long
    c.in-Some.j at _ _ c.try_key-in-Some.new.cells c.try_key-in-Some.ensures

pub returns : goal.returns
returns c l held x lends =
    let a = c.args in
    let most = places-most a.frame.now a.entries.now l x in
    let fit = is-key-size a.lent.count c.requires.count_value in
    let small : Octets a.block.now = λ i. (c.type_inv.block i).fits in
    let none = none-first c.loop-j.cells (length a.entries.now) (let f = c.loop-j.array_long in omega arith) c.in_default.ensures in
    all_found (value_of a.lent) c.requires.key l held a.ids.now a.block.now lends small a.lent.count fit c.loop-j.cells
    (c.loop-j.invariant c.requires.key l held lends small fit x)
    (subst (NonePending c.loop-j.cells) (sym x.count) none)
