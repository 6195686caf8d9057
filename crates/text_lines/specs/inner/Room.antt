-- Text put into lent room.
use Rattle.std.specs.Prelude.{ℕ, ◌+◌, ◌-◌, min, ◌≡◌, List, length}
use Rattle.std.proofs.lemmas.List.Edits.{sets}

-- octets enough for the text of any answer: four numbers of at most 20 digits, with a mark behind each
abbrev pub reply_room : ℕ
reply_room = 84

-- `text` is put into `room` from `at` on, as much of it as there is room for; what stands before and behind it stays. `next` is the place
-- behind it
pub record Put (room : List ℕ) (at : ℕ) (text after : List ℕ) (next : ℕ) : Type 0 where
  pub octets : after ≡ sets room at text
  pub place : next ≡ at + min (length text) (length room - at)
