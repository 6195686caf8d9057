-- The whole output of the member program for its whole input, over what the member does with one frame.
use Rattle.std.specs.Prelude.{ℕ, ◌≡◌, List, [], ◌∷◌, ◌++◌}
use Rattle.text_rules.specs.Lines.{Line, lines}
use Rattle.text_rules.specs.Input.{Asked, bad, frame, line_key, asked_by}
use Rattle.text_rules.specs.Answer.{answer_text, bad_text}

-- what a member answers to a frame: the next member, and the numbers that are printed
pub record LineOutcome (S : Type 0) : Type 0 where
  pub next : S
  pub number : ℕ
  pub sas : ℕ
  pub held : ℕ
  pub figure : ℕ

-- the next member, and the printed text
pub record Reply (S : Type 0) : Type 0 where
  pub next : S
  pub text : List ℕ

-- a step: which outcomes a call with a member, the default key, a tick and a frame can have
abbrev pub CallRelation : Type 0 → Type 1
CallRelation S = S → List ℕ → ℕ → List ℕ → LineOutcome S → Type 0

-- the reply to a frame with the outcome `o`
abbrev pub told : {S : Type 0} → LineOutcome S → Reply S
told o = record { next = o.next; text = answer_text o.number o.sas o.held o.figure }

module _ {S : Type 0} (step : CallRelation S) where
  -- the reply to what a later line asks; a bad line leaves the member as it was
  abbrev pub RepliesTo : List ℕ → S → Asked → Reply S → Type 0
  RepliesTo key member bad a = a ≡ record { next = member; text = bad_text }
  RepliesTo key member (frame tick octets) a = (o : LineOutcome S) × step member key tick octets o × (a ≡ told o)

  -- the reply to the text of a later line
  abbrev pub Replies : List ℕ → S → List ℕ → Reply S → Type 0
  Replies key member text a = RepliesTo key member (asked_by text) a

  -- the lines after the first, each over the member that the one before it left
  abbrev pub Later : List ℕ → S → List Line → List ℕ → Type 0
  Later key member [] output = output ≡ []
  Later key member (l ∷ ls) output =
      (a : Reply S) × Replies key member l.text a × (rest : List ℕ) × Later key a.next ls rest × (output ≡ a.text ++ rest)

  -- the first line gives the default key "and prints nothing"
  abbrev pub OutputOf : S → List Line → List ℕ → Type 0
  OutputOf member [] output = output ≡ []
  OutputOf member (first ∷ ls) output = Later (line_key first.text) member ls output

  -- `output` is what the program prints for `input`, where `member` is the first member
  abbrev pub Transcript : S → List ℕ → List ℕ → Type 0
  Transcript member input output = OutputOf member (lines input) output
