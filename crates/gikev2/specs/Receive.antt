-- The call on an opened frame: it registers or rekeys, by the frame's exchange. "A refusal returns its number and the member as it was."
-- Document 02, T-06: "Number 1 carries the offset of the innermost payload, policy, bag, selector, transform or attribute whose layout
-- broke first, or 0 for the header .. All other numbers carry 0."
use Rattle.std.specs.Prelude.{ℕ, ◌≡◌, List}
use Rattle.state_keys.specs.Limits.{limits}
use Rattle.wire_frames.specs.Frame.{figure}
use Rattle.rules_outcome.specs.Outcome.{Outcome}
use Rattle.gikev2.specs.declared.Member.{Member}
use Rattle.gikev2.specs.declared.call.Answer.{Answer}
use Rattle.gikev2.specs.declared.call.Answer.TheVariants as answer

-- the number of an answer: document 01's, and document 02's 10 of a sealed frame
abbrev pub number_of : Answer → ℕ
number_of answer.Accepted = 0
number_of (answer.BrokenLayout o) = 1
number_of answer.NotForMember = 2
number_of answer.Replayed = 3
number_of answer.BadComposition = 4
number_of answer.Unsupported = 5
number_of answer.Unpaired = 6
number_of answer.OverLimit = 7
number_of answer.KeyConflict = 8
number_of answer.NoKey = 9
number_of answer.Unopened = 10

-- the figure that an answer carries: the offset on number 1, and "all other numbers carry 0"
abbrev pub figure_of : Answer → ℕ
figure_of answer.Accepted = 0
figure_of (answer.BrokenLayout o) = o
figure_of answer.NotForMember = 0
figure_of answer.Replayed = 0
figure_of answer.BadComposition = 0
figure_of answer.Unsupported = 0
figure_of answer.Unpaired = 0
figure_of answer.OverLimit = 0
figure_of answer.KeyConflict = 0
figure_of answer.NoKey = 0
figure_of answer.Unopened = 0

-- the member m receives `octets` at the tick `now` with the lent default key `lent`: a is the answer, and `next` the next member
pub record Receives (m : Member) (now : ℕ) (lent octets : List ℕ) (a : Answer) (next : Member) : Type 0 where
  pub outcome : Outcome limits m.state now lent octets (number_of a) next.state
  pub offset : figure_of a ≡ figure m.state.profile octets
