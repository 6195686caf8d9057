-- The first line of an input, and the octets that it takes.
use Rattle.std.specs.Prelude.{ℕ, List, [], ◌∷◌, ◌++◌, false, cond}
use Rattle.text_rules.specs.Characters.{newline}
use Rattle.text_rules.specs.Lines.{Line}

-- the octets that a line takes in the input
unfoldable pub line_octets : Line → List ℕ
line_octets l = l.text ++ cond l.ended (newline ∷ []) []

-- the first line; where there is none, one with no character that no newline ended
abbrev pub first_of : List Line → Line
first_of [] = record { text = []; ended = false }
first_of (l ∷ ls) = l
