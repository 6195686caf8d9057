-- Opening into blank room. Inner.
use Rattle.std.specs.Prelude.{ℕ, List, Option, Some, None, replicate}
use Rattle.keywrap.specs.declared.Opened.{Opened}
use Rattle.keywrap.specs.Answers.{Answers, Opening}

-- a room of 256 octets, all 0
unfoldable pub blank : List ℕ
blank = replicate 256 0

-- what opening into a blank room of 256 octets answers, where `Result` tells the results: the octets afterwards, of which the count are the
-- result, or `None` where the room stays blank
abbrev pub AnswersBlank : (List ℕ → Type 0) → Option Opened → Type 0
AnswersBlank Result (Some o) = Answers Result blank (Some o.count) o.octets
AnswersBlank Result None = Answers Result blank None blank

-- `open_under`: as `open`, into a blank room of 256 octets, in which every result has room
abbrev pub OpensBlank : List ℕ → List ℕ → Option Opened → Type 0
OpensBlank key wrapped = AnswersBlank (Opening key wrapped blank)
