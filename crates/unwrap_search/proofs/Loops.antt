-- The loops over the cells.
use native.Mathlib.Omega.{arith}
use Prim.Native.Nat.{ℕ, ◌+◌, ◌≤◌, ◌<◌}
use mathlib.Core.Path.{◌≡◌, refl, sym, ◌∙◌, subst}
use mathlib.Core.List.{List}
use borrow.Author.Count.{below_more}
use lib.ListN.{length, take, get_or, set}
use lib.Seq.{get_or-set_same, get_or-set_other, get_or-take, length-take-le}
use Rattle.wire_attributes.specs.Tree.{WrapKey}
use Rattle.unwrap_search.specs.declared.open.Entry.{Entry}
use Rattle.unwrap_search.specs.declared.open.Cell.{Cell}
use Rattle.unwrap_search.specs.inner.Entries.{no_entry, IsEntry, Lists}
use Rattle.unwrap_search.specs.inner.Opened.{no_cell, Tried, stays}
use Rattle.unwrap_search.specs.inner.Search.{key_at, cell_at, AllTried, Unnamed}
use Rattle.unwrap_search.proofs.Statuses.{get_d_any}

-- the cells below i tried, those from i on as they were
pub record Partly (k : ℕ) (v : List ℕ) (size : ℕ) (entries : List WrapKey) (cells out : List Cell) (i : ℕ) : Type 0 where
  pub below : (j : ℕ) → j < i → Tried k v size (key_at entries j) (cell_at cells j) (cell_at out j)
  pub above : (j : ℕ) → i ≤ j → cell_at out j ≡ cell_at cells j

module _ (k : ℕ) (v : List ℕ) (size : ℕ) (entries : List WrapKey) (cells : List Cell) where
  pub partly_none : Partly k v size entries cells cells 0
  partly_none = record { below = λ j h. absurd (omega arith); above = λ j h. refl }

  pub partly-next : (out : List Cell) (i : ℕ) (d r : Cell) → i < length out → Tried k v size (key_at entries i) (get_or out i d) r →
      Partly k v size entries cells out i → Partly k v size entries cells (set out i r) (i + 1)
  partly-next out i d r h t p =
      let c : get_or out i d ≡ cell_at cells i = get_d_any out i d no_cell h ∙ p.above i (omega arith) in
      record {
        below =
            below_more (λ j. Tried k v size (key_at entries j) (cell_at cells j) (cell_at (set out i r) j)) i
            (λ j g.
            subst (Tried k v size (key_at entries j) (cell_at cells j))
            (sym (get_or-set_other out i j r no_cell (λ e. let z : j < i = g in omega arith))) (p.below j g))
            (subst (Tried k v size (key_at entries i) (cell_at cells i)) (sym (get_or-set_same out i r no_cell h))
            (subst (λ (a : Cell). Tried k v size (key_at entries i) a r) c t));
        above = λ j g.
            get_or-set_other out i j r no_cell (λ e. let z : i + 1 ≤ j = g in omega arith) ∙ p.above j (let z : i + 1 ≤ j = g in omega arith);
      }

  pub partly-all : (out : List Cell) (i : ℕ) → length entries ≤ i → Partly k v size entries cells out i →
      AllTried k v size entries cells out
  partly-all out i h p j g = p.below j (omega arith)

  -- where no entry that waits names the key, the cells stay
  pub unnamed-all : (frame : List ℕ) (places : List Entry) (n : ℕ) → Lists frame places n entries → Unnamed k places cells n →
      AllTried k v size entries cells cells
  unnamed-all frame places n l f j g =
      stays (λ w q. f j (let z = l.count in omega arith) ((l.at j (let z = l.count in omega arith)).kwk ∙ q) w) refl

pub entry_at : (frame : List ℕ) (places : List Entry) (n : ℕ) (l : List WrapKey) → Lists frame places n l → (i : ℕ) (d : Entry) → i < n →
    i < length places → IsEntry frame (get_or places i d) (key_at l i)
entry_at frame places n l h i d g k = subst (λ (a : Entry). IsEntry frame a (key_at l i)) (sym (get_d_any places i d no_entry k)) (h.at i g)

-- the first n of an array of places, as a slice
pub lists-first : (frame : List ℕ) (places : List Entry) (n : ℕ) (l : List WrapKey) → n ≤ length places → Lists frame places n l →
    Lists frame (take n places) (length (take n places)) l
lists-first frame places n l g h =
    let m : length (take n places) ≡ n = length-take-le n places g in
    record {
      count = h.count ∙ sym m;
      within = let z = h.within in omega arith;
      at = λ i k.
          let q : i < n = omega arith in
          subst (λ (e : Entry). IsEntry frame e (key_at l i)) (sym (get_or-take n places i no_entry q)) (h.at i q);
    }
