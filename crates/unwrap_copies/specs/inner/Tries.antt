-- Tries (wrapped octets, each opened under one key), and what a result says of a list of tries. Inner.
use Rattle.std.specs.Prelude.{ℕ, ◌≡◌, List, length, take}
use Rattle.state_keys.specs.Rooms.{sa_room}
use Rattle.rfc5649.specs.Opens.{Opens}
use Rattle.rules_chains.specs.Chain.{In}
use Rattle.state_keys.specs.Kinds.{padded}
use Rattle.unwrap_copies.specs.declared.answer.CopyFound.{CopyFound}
use Rattle.unwrap_copies.specs.declared.answer.CopyFound.TheVariants.{Nothing, Key, Conflict}
use Rattle.unwrap_copies.specs.declared.answer.CopyOpened.{CopyOpened}

-- the value of a key, and the octets that are opened under it
pub record Try : Type 0 where
  pub key : List ℕ
  pub wrapped : List ℕ

module _ (tries : List Try) where
  -- one of the tries opens to x
  pub record SomeOpens (x : List ℕ) : Type 0 where
    pub one : Try
    pub stands : In one tries
    pub opens : Opens one.key one.wrapped x

  -- one of the tries opens to a wrong size, or two of them open to two values
  pub data TriesConflict (need : ℕ) : Type 0 where
    wrong_size : (x : List ℕ) → SomeOpens x → (length x ≡ need → ⊥) → TriesConflict need
    two-values : (x y : List ℕ) → SomeOpens x → SomeOpens y → (x ≡ y → ⊥) → TriesConflict need

  -- some try opens, and all that open give the first `count` of `octets`: `need` octets, with blanks behind them
  pub record TriesKey (need : ℕ) (octets : List ℕ) (count : ℕ) : Type 0 where
    pub opens : SomeOpens (take count octets)
    pub every : (x : List ℕ) → SomeOpens x → x ≡ take count octets
    pub size : length (take count octets) ≡ need
    pub need-is : count ≡ need
    pub blanks : octets ≡ padded sa_room (take count octets)

  -- what each result says of the tries: they conflict, none of them opens, or they give one value
  abbrev pub CopyTellsBy : ℕ → CopyFound → List ℕ → ℕ → Type 0
  CopyTellsBy need Conflict octets count = TriesConflict need
  CopyTellsBy need Nothing octets count = (x : List ℕ) → SomeOpens x → ⊥
  CopyTellsBy need Key octets count = TriesKey need octets count

  abbrev pub CopyTells : ℕ → CopyOpened → Type 0
  CopyTells need r = CopyTellsBy need r.found r.octets r.count
