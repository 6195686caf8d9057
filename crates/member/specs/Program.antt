-- THE MEMBER PROGRAM. Document 01: "The member program reads standard input, lines of hexadecimal, one frame a line: first the default key,
-- then lines of tick (8 digits) and frame."
use Rattle.std.specs.Prelude.{◌≡◌, ℕ, List}
use Rattle.text_rules.specs.Transcript.{LineOutcome, Transcript}
use Rattle.gikev2.specs.Member.{new_member}
use Rattle.gikev2.specs.Receive.{number_of, figure_of, Receives}
use Rattle.gikev2.specs.declared.Member.{Member}
use Rattle.gikev2.specs.declared.call.Answer.{Answer}

-- "Each line after the first prints number, SA count, held count": the number of the member's answer to the frame, and the counts of the
-- member that it leaves; on number 1 the figure that the answer carries
pub record LineAnswers (m : Member) (key : List ℕ) (tick : ℕ) (octets : List ℕ) (o : LineOutcome Member) : Type 0 where
  pub answer : Answer
  pub receives : Receives m tick key octets answer o.next
  pub number : o.number ≡ number_of answer
  pub sas : o.sas ≡ o.next.state.table.count
  pub held : o.held ≡ o.next.state.held.count
  pub figure : o.figure ≡ figure_of answer

-- `output` is what the program prints for its whole `input`, from a new member on
abbrev pub Prints : List ℕ → List ℕ → Type 0
Prints input output = Transcript LineAnswers new_member input output
