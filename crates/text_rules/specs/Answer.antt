-- What is printed for a line. Document 01, the member program: "Each line after the first prints number, SA count, held count", or "bad":
-- decimal numbers with one space between two, and a newline. Document 02, T-06: "Document 01's table gains that figure, the program prints
-- it as a fourth number on number 1 only", as in `1 0 0 0`.
use Rattle.std.specs.Prelude.{ℕ, zero, suc, ◌+◌, ◌/◌, ◌%◌, List, [], ◌∷◌, ◌++◌, cond, ltb, eqb}
use Rattle.text_rules.specs.Characters.{newline, space, digit0, letter_a, letter_b, letter_d}

-- the decimal digits of n, the highest first, no 0 before them; the first argument must be at least their count
unfoldable pub decimal_up_to : ℕ → ℕ → List ℕ
decimal_up_to zero n = []
decimal_up_to (suc most) n =
    let more : List ℕ = decimal_up_to most (n / 10) ++ ((digit0 + n % 10) ∷ []) in
    cond (ltb n 10) ((digit0 + n) ∷ []) more

-- the decimal digits of n; there are at most n + 1
unfoldable pub decimal : ℕ → List ℕ
decimal n = decimal_up_to (suc n) n

-- numbers with one space between two, and a newline
unfoldable pub printed : List ℕ → List ℕ
printed [] = newline ∷ []
printed (n ∷ []) = decimal n ++ (newline ∷ [])
printed (n ∷ m ∷ ns) = decimal n ++ (space ∷ printed (m ∷ ns))

-- the text of an answer: on number 1 the figure is its fourth number
unfoldable pub answer_text : ℕ → ℕ → ℕ → ℕ → List ℕ
answer_text number sas held figure = printed (number ∷ sas ∷ held ∷ cond (eqb number 1) (figure ∷ []) [])

-- the characters of "bad", and a newline
abbrev pub bad_text : List ℕ
bad_text = letter_b ∷ letter_a ∷ letter_d ∷ newline ∷ []
