-- What a cell of the search says of its entry. Inner.
use Rattle.std.specs.Prelude.{ℕ, ◌≡◌, Bool, true, false, ◌&&◌, List, [], eqb, length}
use Rattle.rfc5649.specs.Opens.{Opens}
use Rattle.wire_attributes.specs.Tree.{WrapKey}
use Rattle.state_keys.specs.Kinds.{wrapping_of, value_of}
use Rattle.state_keys.specs.declared.kinds.WrappingKey.{WrappingKey}
use Rattle.unwrap_search.specs.declared.open.Status.{Status}
use Rattle.unwrap_search.specs.declared.open.Status.TheVariants.{Waiting, Failed, Wrong, Pending, Done}
use Rattle.unwrap_search.specs.declared.open.Entry.{Entry}
use Rattle.unwrap_search.specs.declared.open.Cell.{Cell}

-- the cell of an entry that was not opened yet
abbrev pub no_cell : Cell
no_cell = record { status = Waiting; key = wrapping_of [] }

abbrev pub waiting : Status → Bool
waiting Waiting = true
waiting Failed = false
waiting Wrong = false
waiting Pending = false
waiting Done = false

abbrev pub pending : Status → Bool
pending Waiting = false
pending Failed = false
pending Wrong = false
pending Pending = true
pending Done = false

-- entry e waits for key k
abbrev pub naming : ℕ → Entry → Cell → Bool
naming k e c = eqb e.kwk k && waiting c.status

-- `wrapped` opens under v to `key`, which has `size` octets
pub record EntryOpened (v : List ℕ) (size : ℕ) (wrapped : List ℕ) (key : WrappingKey) : Type 0 where
  pub opens : Opens v wrapped (value_of key)
  pub fits : length (value_of key) ≡ size
  pub is : key ≡ wrapping_of (value_of key)

-- `wrapped` opens under v, to a wrong size
pub record WrongSize (v : List ℕ) (size : ℕ) (wrapped : List ℕ) : Type 0 where
  pub x : List ℕ
  pub opens : Opens v wrapped x
  pub misfit : length x ≡ size → ⊥

-- `wrapped` does not open under v
abbrev pub NotOpened : List ℕ → List ℕ → Type 0
NotOpened v wrapped = (x : List ℕ) → Opens v wrapped x → ⊥

-- what the status and the key of a cell say after `wrapped` was opened under v
abbrev pub LandedBy : List ℕ → ℕ → List ℕ → Status → WrappingKey → Type 0
LandedBy v size wrapped Waiting key = ⊥
LandedBy v size wrapped Failed key = NotOpened v wrapped
LandedBy v size wrapped Wrong key = WrongSize v size wrapped
LandedBy v size wrapped Pending key = EntryOpened v size wrapped key
LandedBy v size wrapped Done key = ⊥

abbrev pub Landed : List ℕ → ℕ → List ℕ → Cell → Type 0
Landed v size wrapped c = LandedBy v size wrapped c.status c.key

-- the cell of entry e was c, and is r after key k (of value v) was tried on it
pub data Tried (k : ℕ) (v : List ℕ) (size : ℕ) (e : WrapKey) (c r : Cell) : Type 0 where
  opened : c.status ≡ Waiting → e.kwk_id ≡ k → Landed v size e.wrapped r → Tried k v size e c r
  stays : (c.status ≡ Waiting → e.kwk_id ≡ k → ⊥) → r ≡ c → Tried k v size e c r
