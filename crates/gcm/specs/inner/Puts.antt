-- Room written in a part. Inner.
use Rattle.std.specs.Prelude.{◌≡◌, ◌⊎◌, List, ℕ, ◌-◌, ◌<◌, ◌≤◌, length}
use Rattle.std.specs.Int.Bits.{bit_xor}
use Rattle.octets.specs.Numbers.{oct}

-- octet k of c with that of a block of the stream added, where the block begins at `at`
unfoldable pub masked : List ℕ → List ℕ → ℕ → ℕ → ℕ
masked m c at k = bit_xor (oct c k) (oct m (k - at))

-- the octets from an index up to another are those of f, and the others are as they were
pub record PutsOctets (f : ℕ → ℕ) (from to : ℕ) (before after : List ℕ) : Type 0 where
  pub size : length after ≡ length before
  pub inside : (k : ℕ) → from ≤ k → k < to → oct after k ≡ f k
  pub outside : (k : ℕ) → (k < from) ⊎ (to ≤ k) → oct after k ≡ oct before k
