-- The key expansion in progress, word by word.
use Rattle.std.specs.Prelude.{ℕ, ◌/◌, ◌%◌, ◌-◌, ◌<◌, ◌≡◌, List, length, get_or}
use Rattle.fips197.specs.Field.{power}
use Rattle.fips197.specs.Expansion.{word, key_expansion}
use Rattle.aes.specs.declared.expansion.WordPlace.{WordPlace}
use Rattle.aes.specs.inner.Word.{word_octets}
use Rattle.aes.specs.inner.Schedule.{ZeroWords}

-- the first i words of the expanded key stand in w, and zeros behind them
pub record ExpandedTo (key w : List ℕ) (i : ℕ) : Type 0 where
  pub size : length w ≡ 61
  pub same : (j : ℕ) → j < i → word_octets (get_or w j 0) ≡ word (key_expansion key) j
  pub behind : ZeroWords w i 61

-- p is the place of word i: i mod Nk, and the first octet of Rcon[i / Nk]
pub record Placed (nk i : ℕ) (p : WordPlace) : Type 0 where
  pub among : p.word ≡ i % nk
  pub rcon : p.constant ≡ power (i / nk - 1)
