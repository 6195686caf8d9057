-- The loop that reads the numbers of the entries off the cells.
use native.Mathlib.Omega.{arith}
use Prim.Native.Nat.{ℕ, ◌+◌, ◌<◌}
use mathlib.Core.Path.{◌≡◌, ap, ◌∙◌}
use mathlib.Core.Bool.{Bool}
use mathlib.Core.List.{List}
use borrow.Author.Count.{below_more}
use lib.ListN.{length, get_or, set}
use lib.Seq.{get_or-set_same, get_or-set_other}
use Rattle.wire_attributes.specs.Tree.{WrapKey}
use Rattle.unwrap_search.specs.declared.open.Entry.{Entry}
use Rattle.unwrap_search.specs.declared.open.Cell.{Cell}
use Rattle.unwrap_search.specs.inner.Entries.{no_entry, Lists}
use Rattle.unwrap_search.specs.inner.Search.{cell_at, carried_by}
use Rattle.unwrap_paths.specs.declared.levels.Mark.{Mark}
use Rattle.unwrap_paths.specs.declared.levels.Mark.TheVariants.{NotOpened}
use Rattle.unwrap_paths.specs.inner.Links.{mark_of, LinksAre}

-- one element more
set_next : {A : Type 0} (d : A) (f : ℕ → A) (s : List A) (n : ℕ) (v : A) → n < length s → v ≡ f n →
    ((i : ℕ) → i < n → get_or s i d ≡ f i) → (i : ℕ) → i < n + 1 → get_or (set s n v) i d ≡ f i
set_next d f s n v h e g =
    below_more (λ i. get_or (set s n v) i d ≡ f i) n
    (λ i b. get_or-set_other s n i v d (λ q. let z : i < n = b in omega arith) ∙ g i b) (get_or-set_same s n v d h ∙ e)

module _ (all : ℕ) (entries : List Entry) (cells : List Cell) where
  pub linked-next : (ids kwks : List ℕ) (marks : List Mark) (n : ℕ) → n < length ids → n < length kwks → n < length marks → (e : Entry)
      (c : Cell) (m : Mark) (b : Bool) → e ≡ get_or entries n no_entry → c ≡ cell_at cells n →
      ((frame : List ℕ) (l : List WrapKey) → Lists frame entries all l → b ≡ carried_by l e.kwk) → m ≡ mark_of c b →
      LinksAre n all entries cells ids kwks marks →
      LinksAre (n + 1) all entries cells (set ids n e.id) (set kwks n e.kwk) (set marks n m)
  linked-next ids kwks marks n f g h e c m x p q y r b =
      record {
        id-is = set_next 0 (λ (i : ℕ). (get_or entries i no_entry).id) ids n e.id f (ap (λ (a : Entry). a.id) p) b.id-is;
        kwk-is = set_next 0 (λ (i : ℕ). (get_or entries i no_entry).kwk) kwks n e.kwk g (ap (λ (a : Entry). a.kwk) p) b.kwk-is;
        mark-is = λ frame l t.
            set_next NotOpened (λ (i : ℕ). mark_of (cell_at cells i) (carried_by l (get_or entries i no_entry).kwk)) marks n m h
            (r ∙ ap (mark_of c) (y frame l t) ∙ (λ j. mark_of (q j) (carried_by l (p j).kwk))) (b.mark-is frame l t);
      }
