-- READING A JOURNAL BACK. Document 02, T-13: "Reading a journal back onto a new member of the same profile gives the member that these
-- steps made of one. Cut at any octet, it must give the member as of the last line that ends in a newline. A whole line that is not of
-- these kinds, or that the member would refuse, stops the reading with its line number, from 1, and the member so far."
use Rattle.std.specs.Prelude.{ℕ, suc, ◌+◌, ◌≡◌, Bool, true, false, List, [], ◌∷◌}
use Rattle.state_keys.specs.Limits.{Limits}
use Rattle.text_rules.specs.Lines.{Line, lines}
use Rattle.state.specs.declared.State.{State}
use Rattle.state.specs.State.{new_state, left_state, swept_state}
use Rattle.rules_outcome.specs.Outcome.{Outcome}
use Rattle.rules_outcome.specs.Run.{Event, handed, sweep, leave}
use Rattle.journal_rules.specs.Line.{Said, says, other_kind, read_line}

module _ (limits : Limits) where
  -- a step takes effect on the state `s`: a frame that is accepted, a sweep, leaving
  abbrev pub TakesEffect : State → Event → State → Type 0
  TakesEffect s (handed frame lent tick) next = Outcome limits s tick lent frame 0 next
  TakesEffect s (sweep tick) next = next ≡ swept_state limits tick s
  TakesEffect s leave next = next ≡ left_state limits s

  -- a step "that the member would refuse", by any number
  abbrev pub WouldRefuse : State → Event → Type 0
  WouldRefuse s (handed frame lent tick) = (n : ℕ) × Outcome limits s tick lent frame (suc n) s
  WouldRefuse s (sweep tick) = ⊥
  WouldRefuse s leave = ⊥

  -- a line stops the reading over the state `s`, by what it says
  abbrev pub StopsReading : State → Said → Type 0
  StopsReading s (says x) = WouldRefuse s x
  StopsReading s other_kind = Unit {0}

  -- lines from number `n` on, over a state: the state that they leave, and the number of the line that stopped the reading, 0 where none
  -- did. What no newline ends is not looked at
  pub data Replays : State → ℕ → List Line → State → ℕ → Type 0 where
    at-end : (s : State) (n : ℕ) → Replays s n [] s 0
    cut_short : (s : State) (n : ℕ) (l : Line) (ls : List Line) → l.ended ≡ false → Replays s n (l ∷ ls) s 0
    goes_on : (s : State) (n : ℕ) (l : Line) (ls : List Line) (x : Event) (next e : State) (k : ℕ) → l.ended ≡ true →
        read_line l.text ≡ says x → TakesEffect s x next → Replays next (n + 1) ls e k → Replays s n (l ∷ ls) e k
    stops : (s : State) (n : ℕ) (l : Line) (ls : List Line) → l.ended ≡ true → StopsReading s (read_line l.text) →
        Replays s n (l ∷ ls) s n

  -- THE JOURNAL READ BACK "onto a new member of the same profile": `e` is the member, and `k` the number of the line that stopped the
  -- reading. The profile (document 02, T-11) is given to the reader, no line tells it
  abbrev pub ReadBack : Bool → List ℕ → State → ℕ → Type 0
  ReadBack profile journal e k = Replays (new_state limits profile) 1 (lines journal) e k
