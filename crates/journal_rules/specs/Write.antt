-- THE CALLS THAT WRITE A LINE. Document 02, T-13: "written before an accepted frame takes effect .. A line goes to a lent room's start, the
-- rest as lent; one too small gives "no room", and room and member stay as is."
use Rattle.std.specs.Prelude.{ℕ, suc, ◌≤◌, ◌<◌, ◌≡◌, List, length}
use Rattle.state_keys.specs.Limits.{Limits}
use Rattle.keywrap.specs.Answers.{written}
use Rattle.state.specs.declared.State.{State}
use Rattle.rules_outcome.specs.Outcome.{Outcome}
use Rattle.rules_outcome.specs.Run.{Event, handed}
use Rattle.journal_rules.specs.Line.{line_of}
use Rattle.journal_rules.specs.Replay.{TakesEffect}

-- what becomes of a journaled step: a refusal's number; "no room"; done, with a line of so many octets at the room's start
pub data JournalAnswer : Type 0 where
  refused : ℕ → JournalAnswer
  no_room : JournalAnswer
  done : ℕ → JournalAnswer

-- THE STEP `x` OVER THE STATE `s`, JOURNALED into `room`: the answer, the next state, and the room afterwards. The member after it is
-- handed back with the line, so that the line can be stored before the member is used
pub data Journals (limits : Limits) (s : State) (x : Event) (room : List ℕ) : JournalAnswer → State → List ℕ → Type 0 where
  -- "A refusal returns its number and the member as it was": nothing is written, whatever the room
  turned-away : (frame lent : List ℕ) (tick n : ℕ) → x ≡ handed frame lent tick → Outcome limits s tick lent frame (suc n) s →
      Journals limits s x room (refused (suc n)) s room
  too_small : (next : State) → TakesEffect limits s x next → length room < length (line_of x) → Journals limits s x room no_room s room
  wrote : (next : State) → TakesEffect limits s x next → length (line_of x) ≤ length room →
      Journals limits s x room (done (length (line_of x))) next (written (line_of x) room)
