-- What the cells of a search show of number 8. Inner.
use Rattle.std.specs.Prelude.{ℕ, ◌<◌, ◌≡◌, Bool, true, false, List, get_or}
use Rattle.unwrap_search.specs.declared.open.Status.{Status}
use Rattle.unwrap_search.specs.declared.open.Status.TheVariants.{Waiting, Failed, Wrong, Pending, Done}
use Rattle.unwrap_search.specs.declared.open.Entry.{Entry}
use Rattle.unwrap_search.specs.declared.open.Cell.{Cell}
use Rattle.unwrap_search.specs.inner.Entries.{no_entry}
use Rattle.unwrap_search.specs.inner.Search.{cell_at}

-- the Bool is the answer to the question whether P holds
abbrev pub Decides : Bool → Type 0 → Type 0
Decides true P = P
Decides false P = P → ⊥

-- P holds of some place below n
pub record Some (n : ℕ) (P : ℕ → Type 0) : Type 0 where
  pub place : ℕ
  pub inside : place < n
  pub holds : P place

abbrev pub is_done : Status → Bool
is_done Waiting = false
is_done Failed = false
is_done Wrong = false
is_done Pending = false
is_done Done = true

-- entries e and f, whose cells are c and d, give one key two values
pub record Clash (e : Entry) (c : Cell) (f : Entry) (d : Cell) : Type 0 where
  pub id : e.id ≡ f.id
  pub one : c.status ≡ Done
  pub two : d.status ≡ Done
  pub differ : c.key ≡ d.key → ⊥

-- entry e, whose cell is c, and one of the first n entries give one key two values
abbrev pub ClashAmong : Entry → Cell → List Entry → List Cell → ℕ → Type 0
ClashAmong e c places cells n = Some n (λ j. Clash e c (get_or places j no_entry) (cell_at cells j))

-- two of the first n entries give one key two values
abbrev pub AnyClash : List Entry → List Cell → ℕ → Type 0
AnyClash places cells n = Some n (λ i. ClashAmong (get_or places i no_entry) (cell_at cells i) places cells n)

-- one of the first n entries opened to a wrong size
abbrev pub AnyWrong : List Cell → ℕ → Type 0
AnyWrong cells n = Some n (λ i. (cell_at cells i).status ≡ Wrong)
