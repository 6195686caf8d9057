-- A line put to a room's start, if it finds room.
use Rattle.std.specs.Prelude.{◌≡◌, ℕ, ◌<◌, ◌≤◌, false, List, [], ◌∷◌, ◌++◌, length, Option, Some, None}
use Rattle.ikev2_numbers.specs.Codes.{header_octets, most_octets}
use Rattle.keywrap.specs.Answers.{written}
use Rattle.text_rules.specs.Hex.{digits_of}
use Rattle.state_keys.specs.Limits.{limits}
use Rattle.state_keys.specs.Rooms.{wrapping_key_room}
use Rattle.rules_outcome.specs.Run.{Event}
use Rattle.gikev2.specs.declared.Member.{Member}
use Rattle.text_rules.specs.Characters.{newline}
use Rattle.journal_rules.specs.Line.{is_gsa_rekey}
use Rattle.journal_rules.specs.Replay.{TakesEffect}

-- the line of octets
abbrev pub text_of : List ℕ → List ℕ
text_of octets = digits_of octets ++ (newline ∷ [])

-- nothing is written where the line finds no room; else the line stands at the room's start, and the answer is its length
pub data PutsLine (line room after : List ℕ) : Option ℕ → Type 0 where
  left_out : length room < length line → after ≡ room → PutsLine line room after None
  put-there : (n : ℕ) → n ≡ length line → length line ≤ length room → after ≡ written line room → PutsLine line room after (Some n)

-- a frame that can be written: it has a header and at most as many octets as a frame may have, and where its lent key is read, the key has
-- at most as many as a wrapping key
pub record Writable (frame lent : List ℕ) : Type 0 where
  pub least : header_octets ≤ length frame
  pub most : length frame ≤ most_octets
  pub key : is_gsa_rekey frame ≡ false → length lent ≤ wrapping_key_room

-- the step takes the member to the next one
abbrev pub StepTaken : Member → Event → Member → Type 0
StepTaken m x next = TakesEffect limits m.state x next.state
