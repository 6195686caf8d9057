-- What opening the copies of an announced SA answers.
use Rattle.std.specs.Prelude.{ℕ, ◌≡◌, List, map, length, take}
use Rattle.state_keys.specs.Rooms.{sa_room}
use Rattle.wire_attributes.specs.Tree.{SaKey, WrapKey, sa_key_of}
use Rattle.wire_attributes.specs.declared.tables.Place.{Place}
use Rattle.wire_attributes.specs.declared.tables.Meaning.TheVariants as meaning
use Rattle.wire_readers.specs.inner.Values.{values_in}
use Rattle.rules_chains.specs.Chain.{Root, CopyOpens}
use Rattle.rules_chains.specs.Refusals.{Announced, CopiesConflict, KeyOf}
use Rattle.state_keys.specs.Kinds.{padded}
use Rattle.unwrap_copies.specs.declared.answer.CopyFound.{CopyFound}
use Rattle.unwrap_copies.specs.declared.answer.CopyFound.TheVariants.{Nothing, Key, Conflict}
use Rattle.unwrap_copies.specs.declared.answer.CopyOpened.{CopyOpened}

-- "The copies of an announced key are its SA_KEY attributes": those of its Group Key Bag
abbrev pub copies_in : Place → List ℕ → List SaKey
copies_in p s = map sa_key_of (values_in meaning.SaKey p s)

-- the announced SA: its bag has the attributes s, and its policy needs `need` octets
abbrev pub announced_in : Place → List ℕ → ℕ → Announced
announced_in p s need = record { copies = copies_in p s; need = need }

module _ (roots : List Root) (entries : List WrapKey) (size : ℕ) (a : Announced) where
  -- neither 8 nor 9 holds of the SA: its key is the first `count` of `octets`, with blanks behind them
  pub record HasKey (octets : List ℕ) (count : ℕ) : Type 0 where
    pub key : KeyOf roots entries size a (take count octets)
    pub need : count ≡ a.need
    pub length-is : length (take count octets) ≡ a.need
    pub blanks : octets ≡ padded sa_room (take count octets)
    pub fit : CopiesConflict roots entries size a → ⊥

  -- what each answer says of the SA: 8 holds of its copies, none of them opens (9), or they give its key
  abbrev pub CopyAnswersBy : CopyFound → List ℕ → ℕ → Type 0
  CopyAnswersBy Conflict octets count = CopiesConflict roots entries size a
  CopyAnswersBy Nothing octets count = (x : List ℕ) → CopyOpens roots entries size a.copies x → ⊥
  CopyAnswersBy Key octets count = HasKey octets count

  abbrev pub CopyAnswers : CopyOpened → Type 0
  CopyAnswers r = CopyAnswersBy r.found r.octets r.count
