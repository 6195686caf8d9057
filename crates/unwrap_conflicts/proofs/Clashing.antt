-- The tests of number 8 over the cells.
use native.Mathlib.Omega.{arith}
use Prim.Native.Nat.{ℕ, ◌<◌}
use mathlib.Core.Path.{◌≡◌, refl, subst}
use mathlib.Core.Bool.{true}
use mathlib.Core.List.{List}
use lib.ListN.{length, get_or}
use Rattle.unwrap_search.specs.declared.open.Status.{Status}
use Rattle.unwrap_search.specs.declared.open.Status.TheVariants.{Waiting, Failed, Wrong, Pending, Done}
use Rattle.unwrap_search.specs.declared.open.Entry.{Entry}
use Rattle.unwrap_search.specs.declared.open.Cell.{Cell}
use Rattle.unwrap_search.specs.inner.Entries.{no_entry}
use Rattle.unwrap_search.specs.inner.Opened.{no_cell}
use Rattle.unwrap_search.specs.inner.Search.{cell_at}
use Rattle.unwrap_conflicts.specs.inner.Values.{is_done}
use Rattle.unwrap_search.proofs.Statuses.{get_d_any}

-- ---- statuses
pub done-is : (s : Status) → is_done s ≡ true → s ≡ Done
done-is Waiting e = let z : ◌≡◌ {A = ℕ} 0 1 = cc in absurd (omega arith)
done-is Failed e = let z : ◌≡◌ {A = ℕ} 0 1 = cc in absurd (omega arith)
done-is Wrong e = let z : ◌≡◌ {A = ℕ} 0 1 = cc in absurd (omega arith)
done-is Pending e = let z : ◌≡◌ {A = ℕ} 0 1 = cc in absurd (omega arith)
done-is Done e = refl

-- ---- the cell and entry at a place, as the code reads them
module _ (cells : List Cell) (i : ℕ) (d : Cell) (h : i < length cells) where
  cell-is : get_or cells i d ≡ cell_at cells i
  cell-is = get_d_any cells i d no_cell h

  -- a fact about both, at other defaults
  pub both_at : (P : Entry → Cell → Type 0) (places : List Entry) (dE : Entry) → i < length places → P (get_or places i dE) (get_or cells i d) →
      P (get_or places i no_entry) (cell_at cells i)
  both_at P places dE g p =
      subst (λ (e : Entry). P e (cell_at cells i)) (get_d_any places i dE no_entry g) (subst (P (get_or places i dE)) cell-is p)
