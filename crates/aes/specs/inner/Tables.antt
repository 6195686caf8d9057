-- The tables lent to the cipher and to the inverse cipher, by their rules.
use Rattle.std.specs.Prelude.{ℕ, ◌+◌, ◌<◌, ◌≡◌, List, [], ◌∷◌, ◌++◌, get_or}
use Rattle.octets.specs.Numbers.{oct}
use Rattle.fips197.specs.Field.{gmul}
use Rattle.fips197.specs.Sbox.{sbox, inv-sbox}
use Rattle.aes.specs.inner.Word.{word_of}

-- the column (b, 0, 0, 0) times the matrix whose row 0 is p q r t, as a word: FIPS 197, section 4.3
abbrev pub mixed_word : ℕ → ℕ → ℕ → ℕ → ℕ → ℕ
mixed_word p q r t b = word_of (gmul p b) (gmul t b) (gmul r b) (gmul q b)

-- the mixed word of each entry of a substitution box
abbrev pub mixed_table : ℕ → ℕ → ℕ → ℕ → List ℕ → List ℕ
mixed_table p q r t [] = []
mixed_table p q r t (b ∷ box) = mixed_word p q r t b ∷ mixed_table p q r t box

-- MIXCOLUMNS() of SBOX(), and SBOX() itself
unfoldable pub encipher_tables : List ℕ
encipher_tables = mixed_table 2 3 1 1 sbox ++ sbox

-- INVMIXCOLUMNS() of INVSBOX(), INVSBOX() itself, and SBOX() for the key expansion
unfoldable pub decipher_tables : List ℕ
decipher_tables = mixed_table 14 11 13 9 inv-sbox ++ (inv-sbox ++ sbox)

-- a substitution box stands in t from `at` on
abbrev pub Boxed : List ℕ → List ℕ → ℕ → Type 0
Boxed box t at = (i : ℕ) → i < 256 → get_or t (at + i) 0 ≡ oct box i
