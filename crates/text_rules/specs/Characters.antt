-- The characters of the member program's text, by their octets in ASCII.
use Rattle.std.specs.Prelude.{ℕ}

abbrev pub newline : ℕ
newline = 10

abbrev pub space : ℕ
space = 32

-- the digits 0 to 9 stand in a row, and so do the letters
abbrev pub digit0 : ℕ
digit0 = 48

abbrev pub digit9 : ℕ
digit9 = 57

abbrev pub letter_a : ℕ
letter_a = 97

abbrev pub letter_b : ℕ
letter_b = 98

abbrev pub letter_d : ℕ
letter_d = 100

abbrev pub letter_f : ℕ
letter_f = 102

-- what is added to the value of a digit from 10 on, so that 10 is written a
abbrev pub before_letters : ℕ
before_letters = 87
