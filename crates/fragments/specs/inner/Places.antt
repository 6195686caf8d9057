-- What `place` tells of a fragment, and what `gather` asks for.
use Rattle.std.specs.Prelude.{ℕ, ◌≤◌, ◌<◌, ◌≡◌, cond, List, ltb, length}
use Rattle.ikev2_numbers.specs.Codes.{most_octets}
use Rattle.fragments.specs.declared.Case.{Case}
use Rattle.fragments.specs.declared.Case.TheVariants.{Anew, PassedOver, Kept}
use Rattle.fragments.specs.declared.Piece.{Piece}
use Rattle.fragments.specs.declared.Names.{Names}
use Rattle.fragments.specs.declared.Placed.{Placed}
use Rattle.fragments.specs.declared.Placed.TheVariants.{Passed, TooLong, Taken}
use Rattle.fragments.specs.Collection.{Waiting, frame_size}
use Rattle.fragments.specs.Gathering.{case_of, put_to, gathered}
use Rattle.fragments.specs.inner.Counting.{has_number}

-- the rows of the table for a fragment of the same rekey, over the pieces of a collection
abbrev pub case_within : List Piece → ℕ → ℕ → ℕ → Case
case_within l own number total =
    cond (ltb own total) Anew
    (cond (ltb total own) PassedOver
    (cond (has_number number l) PassedOver Kept))

-- the fragment is neither passed over nor too long, and is put to n pieces
pub record Taking (w : Waiting) (f : Names) (piece : List ℕ) (n : ℕ) : Type 0 where
  pub other : case_of w f ≡ PassedOver → ⊥
  pub small : frame_size (gathered w f piece).kept ≤ most_octets
  pub pieces : length (put_to (case_of w f) w).kept ≡ n

-- "passed over, then an opened frame over 16,384 octets so far (7)"
pub record Exceeding (w : Waiting) (f : Names) (piece : List ℕ) : Type 0 where
  pub other : case_of w f ≡ PassedOver → ⊥
  pub long : most_octets < frame_size (gathered w f piece).kept

abbrev pub PlaceSays : Waiting → Names → List ℕ → Placed → Type 0
PlaceSays w f piece Passed = case_of w f ≡ PassedOver
PlaceSays w f piece TooLong = Exceeding w f piece
PlaceSays w f piece (Taken n) = Taking w f piece n
