-- Input as lines. Document 01, the member program: "reads standard input, lines of hexadecimal .. A last line need not end in a newline; no
-- line follows a final one." Every octet but a newline is a character of its line.
use Rattle.std.specs.Prelude.{ℕ, List, [], ◌∷◌, Bool, true, false, cond, eqb}
use Rattle.text_rules.specs.Characters.{newline}

-- the characters of a line, and whether a newline ended it
pub record Line : Type 0 where
  pub text : List ℕ
  pub ended : Bool

-- puts a character in front of the first line; where there is no line, it is a line that no newline ended
abbrev pub prepend_character : ℕ → List Line → List Line
prepend_character c [] = record { text = c ∷ []; ended = false } ∷ []
prepend_character c (l ∷ ls) = record { text = c ∷ l.text; ended = l.ended } ∷ ls

-- the lines of an input
unfoldable pub lines : List ℕ → List Line
lines [] = []
lines (c ∷ s) = cond (eqb c newline) (record { text = []; ended = true } ∷ lines s) (prepend_character c (lines s))
