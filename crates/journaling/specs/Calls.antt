-- WHAT THE JOURNALED CALLS PROMISE (document 02, T-13), over the definition of a journaled step (`Journals`, journal_rules/specs/Write).
use Rattle.std.specs.Prelude.{◌≡◌, ℕ, List, Result, Ok, Err}
use Rattle.state_keys.specs.Limits.{limits}
use Rattle.wire_frames.specs.Frame.{figure}
use Rattle.rules_outcome.specs.Run.{Event, handed}
use Rattle.gikev2.specs.Receive.{number_of, figure_of}
use Rattle.gikev2.specs.declared.Member.{Member}
use Rattle.journal_rules.specs.Write.{JournalAnswer, refused, no_room, done, Journals}
use Rattle.journaling.specs.declared.JournalError.{JournalError}
use Rattle.journaling.specs.declared.JournalError.TheVariants as error
use Rattle.journaling.specs.declared.Journaled.{Journaled}

-- what an entry says: done, with the octets of the line; "no room"; a refusal's number
abbrev pub answer_in : Result ℕ JournalError → JournalAnswer
answer_in (Ok n) = done n
answer_in (Err error.NoRoom) = no_room
answer_in (Err (error.Refused a)) = refused (number_of a)

-- the figure that it carries (T-06): that of a refusal, else 0
abbrev pub figure_in : Result ℕ JournalError → ℕ
figure_in (Ok n) = 0
figure_in (Err error.NoRoom) = 0
figure_in (Err (error.Refused a)) = figure_of a

-- the step `x` over the member `m`, journaled into `room`, which is `after` afterwards
abbrev pub JournalsStep : Member → Event → List ℕ → Journaled → List ℕ → Type 0
JournalsStep m x room r after = Journals limits m.state x room (answer_in r.entry) r.member.state after

-- a frame that is handed in: the step, and the offset that number 1 carries
pub record JournalsFrame (m : Member) (frame lent : List ℕ) (tick : ℕ) (room : List ℕ) (r : Journaled) (after : List ℕ) : Type 0 where
  pub step : JournalsStep m (handed frame lent tick) room r after
  pub offset : figure_in r.entry ≡ figure m.state.profile frame
