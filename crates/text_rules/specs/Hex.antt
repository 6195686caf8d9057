-- Hexadecimal text. Document 01, the member program: "lines of hexadecimal .. Digits are 0-9 and a-f."
use Rattle.std.specs.Prelude.{ℕ, ◌+◌, ◌-◌, ◌*◌, ◌/◌, ◌%◌, List, [], ◌∷◌, Bool, true, cond, ◌&&◌, ◌||◌, length, leb, ltb, eqb}
use Rattle.text_rules.specs.Characters.{digit0, digit9, letter_a, letter_f, before_letters}

-- c is at least `low` and at most `high`
abbrev pub in_range : ℕ → ℕ → ℕ → Bool
in_range low high c = leb low c && leb c high

-- the characters 0 to 9
abbrev pub is_decimal : ℕ → Bool
is_decimal c = in_range digit0 digit9 c

-- the characters a to f
abbrev pub is_letter : ℕ → Bool
is_letter c = in_range letter_a letter_f c

-- a hexadecimal digit
unfoldable pub is_digit : ℕ → Bool
is_digit c = is_decimal c || is_letter c

-- the value of a digit, 0 to 15; the value of another character, of which nothing is asked, is 0
unfoldable pub digit_value_of : ℕ → ℕ
digit_value_of c = cond (is_decimal c) (c - digit0) (cond (is_letter c) (c - before_letters) 0)

-- the digit of value v, 0 to 15
unfoldable pub digit_of : ℕ → ℕ
digit_of v = cond (ltb v 10) (digit0 + v) (before_letters + v)

-- every character is a digit
unfoldable pub are_digits : List ℕ → Bool
are_digits [] = true
are_digits (c ∷ text) = is_digit c && are_digits text

-- digits alone, and an even count of them
unfoldable pub is_hex : List ℕ → Bool
is_hex text = are_digits text && eqb (length text % 2) 0

-- the octets of a text: two digits each, the higher first; a last digit alone, which `is_hex` bars, gives no octet
unfoldable pub octets_of_hex : List ℕ → List ℕ
octets_of_hex [] = []
octets_of_hex (h ∷ []) = []
octets_of_hex (h ∷ l ∷ text) = (16 * digit_value_of h + digit_value_of l) ∷ octets_of_hex text

-- the hexadecimal text of octets
unfoldable pub digits_of : List ℕ → List ℕ
digits_of [] = []
digits_of (o ∷ octets) = digit_of (o / 16) ∷ digit_of (o % 16) ∷ digits_of octets

-- the number that digits write, the highest first; `before` is the number that the digits in front of them write
unfoldable pub number_from : ℕ → List ℕ → ℕ
number_from before [] = before
number_from before (c ∷ text) = number_from (16 * before + digit_value_of c) text
