-- The words of an inverse schedule, as the code makes them from those of the expanded key.
use Rattle.std.specs.Prelude.{ℕ, ◌+◌, ◌*◌, ◌/◌, ◌%◌, ◌-◌, cond, List, ltb, get_or}
use Rattle.aes.specs.inner.Word.{column_of, last_column_of}

-- INVMIXCOLUMNS() of the word x, by the tables t for deciphering. The combined table gives INVMIXCOLUMNS() of INVSBOX(), so SBOX() is
-- applied first
unfoldable pub unmixed_of : List ℕ → ℕ → ℕ
unmixed_of t x =
    let y : ℕ = last_column_of t 512 x x x x 0 in
    column_of t y y y y 0

-- the word of the expanded key for place j of the inverse schedule: rounds are counted down from n, columns in the order 0, 3, 2, 1
abbrev pub source_of : List ℕ → ℕ → ℕ → ℕ
source_of w n j = get_or w (4 * (n - j / 4) + (4 - j % 4) % 4) 0

-- FIPS 197, section 5.3.5: the words of rounds 1 to n - 1 go through INVMIXCOLUMNS()
unfoldable pub inverse_word_of : List ℕ → List ℕ → ℕ → ℕ → ℕ
inverse_word_of t w n j = cond (ltb j 4) (source_of w n j) (cond (ltb j (4 * n)) (unmixed_of t (source_of w n j)) (source_of w n j))
