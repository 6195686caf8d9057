-- What a line of input asks. Document 01, the member program: "first the default key, then lines of tick (8 digits) and frame".
use Rattle.std.specs.Prelude.{ℕ, List, [], Bool, cond, ◌&&◌, length, take, drop, leb}
use Rattle.text_rules.specs.Hex.{is_hex, octets_of_hex, number_from}

-- a tick has 8 digits, 32 bits; a line at most these and two for each octet of the largest frame
abbrev pub tick_digits : ℕ
tick_digits = 8

abbrev pub most_digits : ℕ
most_digits = 32776

-- a key has at most 32 octets
abbrev pub most_key_digits : ℕ
most_key_digits = 64

-- hexadecimal text of at least `least` and at most `most` digits
unfoldable pub is_taken : ℕ → ℕ → List ℕ → Bool
is_taken least most text = leb least (length text) && leb (length text) most && is_hex text

-- "A first line that is missing, has another character, an odd count or over 64 digits counts as an empty key"
unfoldable pub line_key : List ℕ → List ℕ
line_key text = cond (is_taken 0 most_key_digits text) (octets_of_hex text) []

-- what a later line asks: a tick and a frame, or "bad"
pub data Asked : Type 0 where
  bad : Asked
  frame : (tick : ℕ) → (octets : List ℕ) → Asked

-- "a line with another character, an odd count, under 8 digits or over 32,776 prints "bad""
unfoldable pub asked_by : List ℕ → Asked
asked_by text =
    cond (is_taken tick_digits most_digits text) (frame (number_from 0 (take tick_digits text)) (octets_of_hex (drop tick_digits text))) bad
