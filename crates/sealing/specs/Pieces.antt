-- What opening a fragment answers. Document 02, T-12: "each opened and checked on its own", "until then member and room are unchanged": the
-- piece is judged without writing anything, and the room counts by its size alone.
use Rattle.std.specs.Prelude.{◌≡◌, ℕ, ◌≤◌, List, length, Option, None, Some}
use Rattle.ikev2_numbers.specs.Codes.{most_octets}
use Rattle.rfc5282.specs.Keys.{aes_key_of, salt_of}
use Rattle.rfc5282.specs.SealedFragment.{OpensFragment}
use Rattle.rfc5282.specs.Number10.{UnopenedFragment}

-- a piece of `n` octets seals to `s`
pub record PieceOf (part s : List ℕ) (n : ℕ) : Type 0 where
  pub piece : List ℕ
  pub opens : OpensFragment (aes_key_of part) (salt_of part) s piece
  pub count : length piece ≡ n

-- and the room has 16,384 octets
pub record PieceInto (part s room : List ℕ) (n : ℕ) : Type 0 where
  pub of : PieceOf part s n
  pub holds : most_octets ≤ length room

-- a clause of number 10 holds, or there is such a piece
abbrev pub PieceJudged : List ℕ → List ℕ → List ℕ → Option ℕ → Type 0
PieceJudged part s room None = UnopenedFragment part s room
PieceJudged part s room (Some n) = PieceInto part s room n
