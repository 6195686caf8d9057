-- What `write_whole` asks for, and what it writes.
use Rattle.std.specs.Prelude.{ℕ, ◌≤◌, ◌≡◌, List, length}
use Rattle.ikev2_numbers.specs.Codes.{most_octets}
use Rattle.gcm.specs.Opening.{put_at_start}
use Rattle.fragments.specs.declared.Collection.{Collection}
use Rattle.fragments.specs.Collection.{Waiting, most_fragments, frame_size, collection_of}
use Rattle.fragments.specs.Gathering.{whole}

-- the collection of w, whose frame fits
pub record Holding (c : Collection) (w : Waiting) : Type 0 where
  pub is : c ≡ collection_of w
  pub few : length w.kept ≤ most_fragments
  pub small : frame_size w.kept ≤ most_octets

-- the whole frame at the start of the room, and how many octets it has
pub record WholeWritten (w : Waiting) (room : List ℕ) (r : ℕ) (after : List ℕ) : Type 0 where
  pub room-is : after ≡ put_at_start (whole w) room
  pub count-is : r ≡ length (whole w)
