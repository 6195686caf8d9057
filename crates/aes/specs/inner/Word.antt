-- Words of four octets, the first octet highest, and the columns that the rounds make of them.
use Rattle.std.specs.Prelude.{ℕ, ◌+◌, ◌*◌, ◌/◌, ◌%◌, List, [], ◌∷◌, get_or}
use Rattle.std.specs.Int.Bits.{bit_xor}

-- the octets of a word
abbrev pub b0 : ℕ → ℕ
b0 x = x / 16777216 % 256

abbrev pub b1 : ℕ → ℕ
b1 x = x / 65536 % 256

abbrev pub b2 : ℕ → ℕ
b2 x = x / 256 % 256

abbrev pub b3 : ℕ → ℕ
b3 x = x % 256

abbrev pub word_octets : ℕ → List ℕ
word_octets x = b0 x ∷ b1 x ∷ b2 x ∷ b3 x ∷ []

-- the word of four octets
abbrev pub word_of : ℕ → ℕ → ℕ → ℕ → ℕ
word_of p q r t = ((p * 256 + q) * 256 + r) * 256 + t

-- a word rotated to the right by 8, 16, 24 bits
abbrev pub ror8 : ℕ → ℕ
ror8 x = x / 256 + x * 16777216 % 4294967296

abbrev pub ror16 : ℕ → ℕ
ror16 x = x / 65536 + x * 65536 % 4294967296

abbrev pub ror24 : ℕ → ℕ
ror24 x = x / 16777216 + x * 256 % 4294967296

-- a column of a round: the combined table's entries for four octets, each rotated to its row, and a word of the round key
abbrev pub column_of : List ℕ → ℕ → ℕ → ℕ → ℕ → ℕ → ℕ
column_of t a b c d k =
    bit_xor (bit_xor (bit_xor (get_or t (b0 a) 0) (ror8 (get_or t (b1 b) 0))) (bit_xor (ror16 (get_or t (b2 c) 0)) (ror24 (get_or t (b3 d) 0)))) k

-- a column of the last round: the entries of the substitution box in t from `at` on, each in its row, and a word of the round key
abbrev pub last_column_of : List ℕ → ℕ → ℕ → ℕ → ℕ → ℕ → ℕ → ℕ
last_column_of t at a b c d k =
    bit_xor (bit_xor
    (bit_xor (get_or t (at + b0 a) 0 * 16777216 % 4294967296) (get_or t (at + b1 b) 0 * 65536 % 4294967296))
    (bit_xor (get_or t (at + b2 c) 0 * 256 % 4294967296) (get_or t (at + b3 d) 0))) k
