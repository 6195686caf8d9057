-- The numbers that the search for levels reads off the cells, and the path that it ends with. Inner.
use Rattle.std.specs.Prelude.{ℕ, ◌≤◌, ◌<◌, ◌≡◌, Bool, cond, length, get_or}
use mathlib.Core.List.{List, map, Memᴰ}
use Rattle.octets.specs.Numbers.{oct}
use Rattle.wire_attributes.specs.Tree.{WrapKey, SaKey}
use Rattle.rules_chains.specs.Chain.{Root}
use Rattle.rules_chains.specs.Path.{key_ids, KeyPath}
use Rattle.unwrap_search.specs.declared.open.Entry.{Entry}
use Rattle.unwrap_search.specs.declared.open.Cell.{Cell}
use Rattle.unwrap_search.specs.declared.open.Status.TheVariants.{Done}
use Rattle.unwrap_search.specs.inner.Entries.{no_entry, Lists}
use Rattle.unwrap_search.specs.inner.Search.{key_at, cell_at, carried_by}
use Rattle.unwrap_conflicts.specs.inner.Values.{is_done}
use Rattle.unwrap_paths.specs.inner.Code.{mark_at}
use Rattle.unwrap_paths.specs.declared.levels.Mark.{Mark}
use Rattle.unwrap_paths.specs.declared.levels.Mark.TheVariants.{NotOpened, Opened, OpenedFirst}

-- the mark of an entry with this cell, by whether some entry carries the key that it names
abbrev pub mark_of : Cell → Bool → Mark
mark_of c carried = cond (is_done c.status) (cond carried Opened OpenedFirst) NotOpened

-- the numbers and marks of the first n entries, of `all`
pub record LinksAre (n all : ℕ) (entries : List Entry) (cells : List Cell) (ids kwks : List ℕ) (marks : List Mark) : Type 0 where
  pub id-is : (i : ℕ) → i < n → oct ids i ≡ (get_or entries i no_entry).id
  pub kwk-is : (i : ℕ) → i < n → oct kwks i ≡ (get_or entries i no_entry).kwk
  pub mark-is : (frame : List ℕ) (l : List WrapKey) → Lists frame entries all l → (i : ℕ) → i < n →
      mark_at marks i ≡ mark_of (cell_at cells i) (carried_by l (get_or entries i no_entry).kwk)

-- the same, in arrays that are long enough
pub record Numbered (n : ℕ) (entries : List Entry) (cells : List Cell) (ids kwks : List ℕ) (marks : List Mark) : Type 0 where
  pub linked : LinksAre n n entries cells ids kwks marks
  pub ids-long : n ≤ length ids
  pub kwks-long : n ≤ length kwks
  pub marks-long : n ≤ length marks

-- the entries at these places
abbrev pub entries_at : List WrapKey → List ℕ → List WrapKey
entries_at l places = map (key_at l) places

-- these places are those of the path, which ends on key `end`, and each entry at one of them opened
pub record LeadsTo (roots : List Root) (l : List WrapKey) (size : ℕ) (cells : List Cell) (copies : List SaKey) (places : List ℕ) (end : ℕ) :
    Type 0 where
  pub path : KeyPath roots l size copies (key_ids (entries_at l places)) end
  pub inside : (i : ℕ) → Memᴰ i places → i < length l
  pub done : (i : ℕ) → Memᴰ i places → (cell_at cells i).status ≡ Done
