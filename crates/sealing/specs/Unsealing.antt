-- What opening a sealed frame into lent room answers and leaves there. Document 02, T-05: "Outer 1, 2 and 10 leave the room
-- for plain octets as lent; else it then starts with the opened frame .., the rest as lent."
use Rattle.std.specs.Prelude.{◌≡◌, ℕ, List, length, Option, None, Some}
use Rattle.gcm.specs.Opening.{put_at_start}
use Rattle.rfc5282.specs.Number10.{Unopened, OpensInto}

-- an opened frame of `n` octets seals to `s`, and it was written
pub record FrameWritten (part s room : List ℕ) (n : ℕ) (after : List ℕ) : Type 0 where
  pub opened : List ℕ
  pub opening : OpensInto part s room opened
  pub count : length opened ≡ n
  pub room-is : after ≡ put_at_start opened room

-- a clause of number 10 holds, and the room is as lent
pub record FrameNotOpened (part s room after : List ℕ) : Type 0 where
  pub clause : Unopened part s room
  pub room-is : after ≡ room

abbrev pub UnsealsInto : List ℕ → List ℕ → List ℕ → Option ℕ → List ℕ → Type 0
UnsealsInto part s room None after = FrameNotOpened part s room after
UnsealsInto part s room (Some n) after = FrameWritten part s room n after
