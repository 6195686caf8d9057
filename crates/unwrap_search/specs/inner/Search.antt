-- What a search over the entries ends with. Inner.
use Rattle.std.specs.Prelude.{ℕ, ◌<◌, ◌≡◌, Bool, true, not, List, [], ◌∷◌, map, eqb, length, get_or, Option, Some, None}
use Rattle.rfc5649.specs.Opens.{Opens}
use Rattle.wire_attributes.specs.Tree.{WrapKey}
use Rattle.rules_chains.specs.Chain.{In, Root, Chain, Reached, ChainEnds}
use Rattle.lists.specs.Lists.{any, keep}
use Rattle.state_keys.specs.Algorithms.{is_wrapping_size}
use Rattle.state_keys.specs.Kinds.{wrapping_of, value_of}
use Rattle.state.specs.declared.held.HeldKey.{HeldKey}
use Rattle.state_keys.specs.declared.kinds.WrappingKey.{WrappingKey}
use Rattle.unwrap_search.specs.declared.open.Status.TheVariants.{Waiting, Wrong, Pending, Done}
use Rattle.unwrap_search.specs.declared.open.Cell.{Cell}
use Rattle.unwrap_search.specs.declared.open.Entry.{Entry}
use Rattle.unwrap_search.specs.inner.Entries.{no_wrap_key, no_entry}
use Rattle.unwrap_search.specs.inner.Opened.{no_cell, Tried}

abbrev pub key_at : List WrapKey → ℕ → WrapKey
key_at entries i = get_or entries i no_wrap_key

abbrev pub cell_at : List Cell → ℕ → Cell
cell_at cells i = get_or cells i no_cell

-- the cells were c, and are r after key k (of value v) was tried on every entry
abbrev pub AllTried : ℕ → List ℕ → ℕ → List WrapKey → List Cell → List Cell → Type 0
AllTried k v size entries c r = (i : ℕ) → i < length entries → Tried k v size (key_at entries i) (cell_at c i) (cell_at r i)

-- none of the first n entries waits for key k
abbrev pub Unnamed : ℕ → List Entry → List Cell → ℕ → Type 0
Unnamed k places cells n = (i : ℕ) → i < n → (get_or places i no_entry).kwk ≡ k → (cell_at cells i).status ≡ Waiting → ⊥

-- cell j is one of the first n, and is pending
pub record PendingAt (cells : List Cell) (n j : ℕ) : Type 0 where
  pub inside : j < n
  pub pends : (cell_at cells j).status ≡ Pending

-- none of the first n cells is pending
abbrev pub NonePending : List Cell → ℕ → Type 0
NonePending cells n = (i : ℕ) → i < n → (cell_at cells i).status ≡ Pending → ⊥

-- the answer is the place of a pending cell, or `None` and no cell is pending
abbrev pub Finds : List Cell → ℕ → Option ℕ → Type 0
Finds cells n (Some j) = PendingAt cells n j
Finds cells n None = NonePending cells n

-- number 6 refuses a WRAP_KEY with Key ID 0: no entry has it
abbrev pub Nonzero : List WrapKey → Type 0
Nonzero entries = (i : ℕ) → i < length entries → (key_at entries i).key_id ≡ 0 → ⊥

-- the one root of a registration: key 0 with the value v
abbrev pub key_zero_roots : List ℕ → List Root
key_zero_roots v = record { id = 0; value = v } ∷ []

-- one of the entries has this Key ID
abbrev pub carried_by : List WrapKey → ℕ → Bool
carried_by entries id = any (λ (e : WrapKey). eqb e.key_id id) entries

-- a held key as a root
abbrev pub root_of : HeldKey → Root
root_of k = record { id = k.id; value = value_of k.key }

-- "Chains now start from the default key or a held key not carried anew" (document 02, T-11): the roots that these held keys are
unfoldable pub held_roots : List WrapKey → List HeldKey → List Root
held_roots entries keys = map root_of (keep (λ (k : HeldKey). not (carried_by entries k.id)) keys)

-- all roots: key 0 with the value v, and the held keys that no entry carries anew
abbrev pub roots_with : List ℕ → List WrapKey → List HeldKey → List Root
roots_with v entries keys = record { id = 0; value = v } ∷ held_roots entries keys

-- each root has one value, and no entry carries its Key ID
pub record RootsFit (roots : List Root) (entries : List WrapKey) : Type 0 where
  pub alike : (r s : Root) → In r roots → In s roots → r.id ≡ s.id → r.value ≡ s.value
  pub apart : (r : Root) → In r roots → (i : ℕ) → i < length entries → (key_at entries i).key_id ≡ r.id → ⊥

-- `made` has the value of key k, and a size that a schedule can be expanded for
pub record KeyFrom (k made : WrappingKey) : Type 0 where
  pub value : value_of made ≡ value_of k
  pub size : is_wrapping_size made.count ≡ true

module _ (roots : List Root) (entries : List WrapKey) (size : ℕ) where
  -- a chain that ends with entry e gives `key`, which has `size` octets
  pub record ChainGives (e : WrapKey) (key : WrappingKey) : Type 0 where
    pub passed : List WrapKey
    pub chain : Chain roots entries size (e ∷ passed) e.key_id (value_of key)
    pub fits : length (value_of key) ≡ size
    pub is : key ≡ wrapping_of (value_of key)

  -- a chain that ends with entry e gives a value of a wrong size
  pub record Misfits (e : WrapKey) : Type 0 where
    pub x : List ℕ
    pub passed : List WrapKey
    pub chain : Chain roots entries size (e ∷ passed) e.key_id x
    pub misfit : length x ≡ size → ⊥

  -- a `Done` cell gives key k the value x
  pub record FoundIn (cells : List Cell) (k : ℕ) (x : List ℕ) : Type 0 where
    pub place : ℕ
    pub inside : place < length entries
    pub done : (cell_at cells place).status ≡ Done
    pub id-is : (key_at entries place).key_id ≡ k
    pub value-is : value_of (cell_at cells place).key ≡ x

  -- the cells give each key one value
  abbrev pub OneEach : List Cell → Type 0
  OneEach cells =
      (k : ℕ) (x y : List ℕ) → FoundIn cells k x → FoundIn cells k y → x ≡ y

  -- the cells after a search. The entry of a `Done` cell ends a chain that gives the cell's key. The entry of a `Wrong` cell ends a chain
  -- that gives a value of a wrong size. If no Key ID is 0, no cell is `Wrong` and the cells give each key one value, then the cells have
  -- every key that is reached, and each entry whose octets open under a key on which a chain ends is `Done`.
  pub record Searched (cells : List Cell) : Type 0 where
    pub gives : (i : ℕ) → i < length entries → (cell_at cells i).status ≡ Done → ChainGives (key_at entries i) (cell_at cells i).key
    pub misfits : (i : ℕ) → i < length entries → (cell_at cells i).status ≡ Wrong → Misfits (key_at entries i)
    pub complete : Nonzero entries →
        ((i : ℕ) → i < length entries → (cell_at cells i).status ≡ Wrong → ⊥) → OneEach cells → (k : ℕ) (x : List ℕ) →
        Reached roots entries size k x → FoundIn cells k x
    pub opened : Nonzero entries →
        ((i : ℕ) → i < length entries → (cell_at cells i).status ≡ Wrong → ⊥) → OneEach cells → (i : ℕ) → i < length entries →
        (v x : List ℕ) → ChainEnds roots entries size (key_at entries i).kwk_id v → Opens v (key_at entries i).wrapped x →
        (cell_at cells i).status ≡ Done
