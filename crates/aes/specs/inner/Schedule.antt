-- The contents of a schedule: the words of the round keys, zeros up to index 60, and there the number of rounds.
use Rattle.std.specs.Prelude.{◌≡◌, List, ℕ, ◌+◌, ◌*◌, ◌-◌, ◌<◌, ◌≤◌, length, get_or}
use Rattle.fips197.specs.Key.{Key, rounds_of}
use Rattle.fips197.specs.Steps.{inv_mix_columns}
use Rattle.fips197.specs.Expansion.{key_expansion}
use Rattle.fips197.specs.Cipher.{round_key}
use Rattle.aes.specs.inner.Rounds.{state_octets, round_key_of, swapped_of}

-- the words from `at` on and before `end` are 0
abbrev pub ZeroWords : List ℕ → ℕ → ℕ → Type 0
ZeroWords s at end = (i : ℕ) → at ≤ i → i < end → get_or s i 0 ≡ 0

-- s is the key's schedule for `encrypt`: the round keys
pub record Expands (key s : List ℕ) : Type 0 where
  pub key-is : Key key
  pub size : length s ≡ 61
  pub rounds : get_or s 60 0 ≡ rounds_of key
  pub keys : (r : ℕ) → r ≤ rounds_of key → state_octets (round_key_of s r) ≡ round_key (key_expansion key) r
  pub unused : ZeroWords s (4 * (rounds_of key + 1)) 60

-- s is the key's schedule for `decrypt`, FIPS 197, section 5.3.5: the round keys in the order of use, with INVMIXCOLUMNS() applied to
-- those between the first and the last. The columns of each are counted the other way round: so counted, INVSHIFTROWS() is SHIFTROWS(),
-- and the rounds of the cipher serve the inverse cipher.
pub record ExpandsInverse (key s : List ℕ) : Type 0 where
  pub key-is : Key key
  pub size : length s ≡ 61
  pub rounds : get_or s 60 0 ≡ rounds_of key
  pub first : state_octets (swapped_of (round_key_of s 0)) ≡ round_key (key_expansion key) (rounds_of key)
  pub between : (r : ℕ) → 0 < r → r < rounds_of key
      → state_octets (swapped_of (round_key_of s r)) ≡ inv_mix_columns (round_key (key_expansion key) (rounds_of key - r))
  pub last : state_octets (swapped_of (round_key_of s (rounds_of key))) ≡ round_key (key_expansion key) 0
  pub unused : ZeroWords s (4 * (rounds_of key + 1)) 60

-- s is the schedule of some key
pub record Expanded (s : List ℕ) : Type 0 where
  pub key : List ℕ
  pub expands : Expands key s

pub record ExpandedInverse (s : List ℕ) : Type 0 where
  pub key : List ℕ
  pub expands : ExpandsInverse key s
