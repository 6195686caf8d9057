-- WHAT HOLDS OF A JOURNAL: the words of the laws in proofs/.
use Rattle.std.specs.Prelude.{ℕ, ◌^◌, ◌<◌, ◌≤◌, ◌≡◌, true, false, ◌⊎◌, List, [], ◌∷◌, ◌++◌, eqb, length, take}
use Rattle.ikev2_numbers.specs.Codes.{header_octets, most_octets}
use Rattle.octets.specs.Octets.{Octets}
use Rattle.state_keys.specs.Limits.{Limits}
use Rattle.lists.specs.Lists.{count}
use Rattle.text_rules.specs.Hex.{digits_of}
use Rattle.text_rules.specs.Lines.{lines}
use Rattle.state.specs.declared.State.{State}
use Rattle.rules_outcome.specs.Outcome.{Outcome}
use Rattle.rules_outcome.specs.Run.{Event, handed, sweep, leave}
use Rattle.text_rules.specs.Characters.{newline}
use Rattle.journal_rules.specs.Line.{leaving_octet, is_gsa_rekey, key_read, event_octets, line_of}
use Rattle.journal_rules.specs.Replay.{TakesEffect, Replays}
use Rattle.journal_rules.specs.Write.{JournalAnswer, refused, no_room, done, Journals}

-- the lines of steps, one after the other
unfoldable pub journal_of : List Event → List ℕ
journal_of [] = []
journal_of (x ∷ l) = line_of x ++ journal_of l

-- the numbers of a step are of the types in which calls take them: octets, and a tick of 32 bits
abbrev pub Typed : Event → Type 0
Typed (handed frame lent tick) = Octets frame × Octets lent × (tick < 2 ^ 32)
Typed (sweep tick) = tick < 2 ^ 32
Typed leave = Unit {0}

-- a frame, a key and a tick that a line can hold: a GSA_REKEY has no key, every other frame has one, whose length is no mark of leaving
pub record Holdable (frame key : List ℕ) (tick : ℕ) : Type 0 where
  pub octets : Octets frame
  pub key-octets : Octets key
  pub tick-fits : tick < 2 ^ 32
  pub least : header_octets ≤ length frame
  pub none : is_gsa_rekey frame ≡ true → length key ≡ 0
  pub some : is_gsa_rekey frame ≡ false → 0 < length key
  pub few : length key < leaving_octet

abbrev pub HoldableEvent : Event → Type 0
HoldableEvent (handed frame lent tick) = Holdable frame (key_read frame lent) tick
HoldableEvent (sweep tick) = tick < 2 ^ 32
HoldableEvent leave = Unit {0}

-- a step as its line has it: a GSA_REKEY without the lent key
abbrev pub as_written : Event → Event
as_written (handed frame lent tick) = handed frame (key_read frame lent) tick
as_written (sweep tick) = sweep tick
as_written leave = leave

-- a text is the line of a step, without its newline
pub record IsLineOf (text : List ℕ) (x : Event) : Type 0 where
  pub is : text ≡ digits_of (event_octets x)
  pub held : HoldableEvent x
  pub as_is : as_written x ≡ x

-- what acceptance says of a frame's octets and of the lent key: 28 to 16,384 octets (number 1), and where the lent key is read, it has 16,
-- 24 or 32 (number 5)
abbrev pub KeyFits : List ℕ → Type 0
KeyFits lent = (length lent ≡ 16) ⊎ ((length lent ≡ 24) ⊎ (length lent ≡ 32))

pub record AcceptedFrame (frame lent : List ℕ) : Type 0 where
  pub least : header_octets ≤ length frame
  pub most : length frame ≤ most_octets
  pub key : is_gsa_rekey frame ≡ false → KeyFits lent

-- a room of so many octets holds every line: a key length, a key of 32 octets, a tick and a frame of 16,384 in digits, and a newline
abbrev pub line_room : ℕ
line_room = 32843

-- how many lines of some octets end in a newline
abbrev pub lines_ended : List ℕ → ℕ
lines_ended s = count (λ (c : ℕ). eqb c newline) s

-- the step was not done: a refusal, or "no room"
abbrev pub NotDone : JournalAnswer → Type 0
NotDone (refused n) = Unit {0}
NotDone no_room = Unit {0}
NotDone (done n) = ⊥

-- what a caller stores after a call: the line at the room's start, where the step was done
abbrev pub stored_of : JournalAnswer → List ℕ → List ℕ
stored_of (refused n) after = []
stored_of no_room after = []
stored_of (done n) after = take n after

-- the same is read back: one member and one line number
pub record SameRead (e f : State) (j k : ℕ) : Type 0 where
  pub member : e ≡ f
  pub line : j ≡ k

-- a journaled call comes to the same: answer, next member and room
pub record SameCall (a b : JournalAnswer) (next next' : State) (after after' : List ℕ) : Type 0 where
  pub answer : a ≡ b
  pub member : next ≡ next'
  pub room : after ≡ after'

module _ (limits : Limits) where
  -- steps that took effect one after the other
  pub data TookEffect : State → List Event → State → Type 0 where
    none-taken : (s : State) → TookEffect s [] s
    then-took : (s next e : State) (x : Event) (l : List Event) → Typed x → TakesEffect limits s x next → TookEffect next l e →
        TookEffect s (x ∷ l) e

  -- octets `j`, cut from the journal of the steps `l` over the state `s`, read back: the member of the steps whose lines end within them,
  -- and nothing stops the reading. `m` is the number of the first line
  pub record CutTo (s : State) (m : ℕ) (l : List Event) (j : List ℕ) : Type 0 where
    pub member : State
    pub steps : TookEffect s (take (lines_ended j) l) member
    pub reads : Replays limits s m (lines j) member 0

  -- the answer and the next state of a journaled step are those of the plain call: a frame's number and what it leaves, what is swept, what
  -- leaving gives
  abbrev pub AsPlain : State → Event → JournalAnswer → State → Type 0
  AsPlain s (handed frame lent tick) (refused n) next = Outcome limits s tick lent frame n next
  AsPlain s (sweep tick) (refused n) next = ⊥
  AsPlain s leave (refused n) next = ⊥
  AsPlain s x no_room next = ⊥
  AsPlain s x (done n) next = TakesEffect limits s x next

  -- any sequence of journaled calls, each over the member that the one before it left, answers of every kind among them, and what a caller
  -- stored along it
  pub data JournaledRun : State → List ℕ → State → Type 0 where
    no_call : (s : State) → JournaledRun s [] s
    then-call : (s next e : State) (x : Event) (room after journal : List ℕ) (a : JournalAnswer) → Typed x →
        Journals limits s x room a next after → JournaledRun next journal e → JournaledRun s (stored_of a after ++ journal) e
