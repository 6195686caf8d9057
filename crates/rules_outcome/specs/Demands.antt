-- THE CUSTOMER'S DEMANDS, a row for each sentence, with what it says of the definitions. The theorem `demands-hold`
-- (proofs/DemandsHold.antt) proves them all. Demand 3 is one row: its sentences stand over the fields of its record. `Outcome` is what
-- `Member::receive` promises and `OpenAnswers` what `open` promises, for all inputs, without `requires`. So each row speaks of the code.
use Rattle.std.specs.Prelude.{ℕ, suc, ◌≤◌, ◌≡◌, true, ◌↔◌, List, length, Option, None, Some}
use Rattle.octets.specs.Octets.{Octets}
use Rattle.fips197.specs.Key.{Key}
use Rattle.rfc5649.specs.Wrap.{wrap_of}
use Rattle.rfc5649.specs.Opens.{Opens}
use Rattle.keywrap.specs.Answers.{written, OpenAnswers}
use Rattle.state_keys.specs.Limits.{limits}
use Rattle.wire_attributes.specs.Tree.{WrapKey}
use Rattle.wire_frames.specs.Frame.{Frame}
use Rattle.wire_frames.specs.Grammar.{IsFrame}
use Rattle.state.specs.declared.State.{State}
use Rattle.state.specs.State.{state_formed}
use Rattle.rules_chains.specs.Chain.{In, Root, Reached}
use Rattle.rules_outcome.specs.After.{After}
use Rattle.rules_outcome.specs.Outcome.{Outcome}
use Rattle.rules_outcome.specs.Judging.{SomeHolds, JudgedFirst}
use Rattle.rules_outcome.specs.Meets.{judging_order, Accepted}
use Rattle.rules_outcome.specs.Demand3.{Demand3}

-- ---- demand 1
module _ (s : State) (now : ℕ) (lent octets : List ℕ) where
  -- No input is without an outcome, and none has two. The definitions run no search: they only rule out that there is no outcome. The code
  -- finds it.
  pub record OneAnswer : Type 1 where
    pub some : ((n : ℕ) (next : State) → Outcome limits s now lent octets n next → ⊥) → ⊥
    pub one : (n m : ℕ) (next after : State) → Outcome limits s now lent octets n next → Outcome limits s now lent octets m after →
        (n ≡ m) × (next ≡ after)

  pub record OneOfTheNumbers : Type 1 where
    -- "one of the nine refusals in document 01"
    pub nine : (n : ℕ) (next : State) → Outcome limits s now lent octets n next → n ≤ 9
    -- "each exactly when its condition holds and no lower one does", lower being judged earlier, "and a refusal changes nothing in the
    -- member"
    pub exactly : (n : ℕ) (next : State) →
        Outcome limits s now lent octets (suc n) next ↔ (JudgedFirst (judging_order limits s now lent octets) (suc n) × (next ≡ s))
    -- "Bad input": 0 is given exactly when no condition holds
    pub accepted : (next : State) → Outcome limits s now lent octets 0 next ↔ Accepted limits s now lent octets next
    pub zero-due : (n : ℕ) (next : State) → Outcome limits s now lent octets n next →
        ((m : ℕ) → SomeHolds (judging_order limits s now lent octets) m → ⊥) → n ≡ 0

  -- ---- demand 2
  pub record OneReading (next : State) : Type 1 where
    -- "the one reading that RFC 9838 and RFC 7296 give it"
    pub tree : Frame
    pub layout : IsFrame s.profile octets tree
    pub one : (other : Frame) → IsFrame s.profile octets other → other ≡ tree
    -- "within our limits": of number 7, and those of a table and a held list
    pub within : SomeHolds (judging_order limits s now lent octets) 7 → ⊥
    pub is-formed : state_formed limits next ≡ true
    -- "and the member afterwards is the one document 01 describes"
    pub after : After limits s now lent tree next
    pub only : (other : State) → After limits s now lent tree other → other ≡ next

-- "1 to 256 given octets", and room for them
pub record Fits (room x : List ℕ) : Type 0 where
  pub least : 1 ≤ length x
  pub most : length x ≤ 256
  pub octets : Octets x
  pub holds : length x ≤ length room

-- the answer `a` of `open` and the room `after` it say that it opened to `x`
pub record OpenedTo (room x : List ℕ) (a : Option ℕ) (after : List ℕ) : Type 0 where
  pub answer : a ≡ Some (length x)
  pub room-is : after ≡ written x room

pub record OpensExactly (key wrapped room : List ℕ) (a : Option ℕ) (after : List ℕ) : Type 1 where
  pub exactly : (x : List ℕ) → Fits room x → OpenedTo room x a after ↔ (wrap_of key x ≡ wrapped)
  -- and where it answers no, nothing that fits opens, and the room is as lent
  pub answers-no : a ≡ None → ((x : List ℕ) → Fits room x → wrap_of key x ≡ wrapped → ⊥) × (after ≡ room)

-- ---- demand 3: what chains lead to, said without chains
module _ (roots : List Root) (entries : List WrapKey) (size : ℕ) where
  -- `P` holds of a key and its value if an entry leads there from a root, or from a key of `P` whose value has the size `size`
  pub record Closed (P : ℕ → List ℕ → Type 0) : Type 0 where
    pub first : (r : Root) → In r roots → (e : WrapKey) → In e entries → e.kwk_id ≡ r.id → (x : List ℕ) →
        Opens r.value e.wrapped x → P e.key_id x
    pub on : (k : ℕ) (v : List ℕ) → P k v → length v ≡ size → (e : WrapKey) → In e entries → e.kwk_id ≡ k → (x : List ℕ) →
        Opens v e.wrapped x → P e.key_id x

  -- what chains reach is closed in this way, and is the least that is
  pub record LeastClosed : Type 1 where
    pub closed : Closed (Reached roots entries size)
    pub least : (P : ℕ → List ℕ → Type 0) → Closed P → (k : ℕ) (x : List ℕ) → Reached roots entries size k x → P k x

-- ---- THE TABLE
pub data Demand : Type 0 where
  -- 1: "Any octets, any clock reading and any member give an answer."
  any-input : Demand
  -- "Bad input gets one of the nine refusals in document 01, each exactly when its condition holds and no lower one does, and a refusal
  -- changes nothing in the member."
  refusals : Demand
  -- 2: "An accepted frame has the one reading that RFC 9838 and RFC 7296 give it, within our limits, and the member afterwards is the one
  -- document 01 describes."
  reading : Demand
  -- "A wrapped key opens, given room, to 1 to 256 given octets exactly when wrapping those octets by RFC 5649 under that key yields the
  -- wrapped ones."
  opening : Demand
  -- 3: "Whatever frame, lent default key, tick and member are handed in, the following holds." Its sentences stand in specs/Demand3.antt.
  keys : Demand
  -- "A chain is defined without running any search."
  chains : Demand

abbrev pub Claims : Demand → Type 1
Claims any-input = (s : State) (now : ℕ) (lent octets : List ℕ) → OneAnswer s now lent octets
Claims refusals = (s : State) (now : ℕ) (lent octets : List ℕ) → OneOfTheNumbers s now lent octets
Claims reading = (s : State) (now : ℕ) (lent octets : List ℕ) (next : State) → Outcome limits s now lent octets 0 next →
    OneReading s now lent octets next
Claims opening = (key wrapped room : List ℕ) → Key key → (a : Option ℕ) (after : List ℕ) → OpenAnswers key wrapped room a after →
    OpensExactly key wrapped room a after
Claims keys = (s : State) (now : ℕ) (lent octets : List ℕ) (f : Frame) → IsFrame s.profile octets f → (n : ℕ) (next : State) →
    Outcome limits s now lent octets n next → Demand3 limits s now lent f octets n next
Claims chains = (roots : List Root) (entries : List WrapKey) (size : ℕ) → LeastClosed roots entries size
