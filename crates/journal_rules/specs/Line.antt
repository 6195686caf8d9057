-- A LINE OF THE JOURNAL. Document 02, T-13: "in our usual hexadecimal, one frame a line: the lent default key's length (one octet; 00 for a
-- GSA_REKEY) and octets, tick, and opened frame .. A sweep writes its tick with key length 00 and no frame; leaving writes ff alone."
use Rattle.std.specs.Prelude.{ℕ, ◌+◌, Bool, cond, not, ◌&&◌, List, [], ◌∷◌, ◌++◌, eqb, leb, length, take, drop}
use Rattle.ikev2_numbers.specs.Codes.{exchange_at, gsa_rekey, header_octets}
use Rattle.octets.specs.Numbers.{oct, octets_of}
use Rattle.octets.specs.Walk.{be32}
use Rattle.text_rules.specs.Characters.{newline}
use Rattle.text_rules.specs.Hex.{is_hex, octets_of_hex, digits_of}
use Rattle.rules_outcome.specs.Run.{Event, handed, sweep, leave}

-- octets of a tick, and the octet that stands for leaving
abbrev pub tick_octets : ℕ
tick_octets = 4

abbrev pub leaving_octet : ℕ
leaving_octet = 255

-- the frame is a GSA_REKEY, by the exchange type in its header
abbrev pub is_gsa_rekey : List ℕ → Bool
is_gsa_rekey frame = eqb (oct frame exchange_at) gsa_rekey

-- the lent default key as far as it is read: "GSA_REKEY frames use the live Rekey SA's own, and the lent one is not read" (document 01)
abbrev pub key_read : List ℕ → List ℕ → List ℕ
key_read frame lent = cond (is_gsa_rekey frame) [] lent

-- a key with its length before it, a tick, a frame
abbrev pub entry_octets : List ℕ → ℕ → List ℕ → List ℕ
entry_octets key tick frame = length key ∷ (key ++ (octets_of tick_octets tick ++ frame))

-- the octets that are written for a step
unfoldable pub event_octets : Event → List ℕ
event_octets (handed frame lent tick) = entry_octets (key_read frame lent) tick frame
event_octets (sweep tick) = entry_octets [] tick []
event_octets leave = leaving_octet ∷ []

-- THE LINE OF A STEP: their digits, and a newline
unfoldable pub line_of : Event → List ℕ
line_of x = digits_of (event_octets x) ++ (newline ∷ [])

-- what a line says: a step, or nothing, since it "is not of these kinds"
pub data Said : Type 0 where
  says : Event → Said
  other_kind : Said

-- the frame that stands behind a key of `n` octets and a tick
abbrev pub frame_behind : ℕ → List ℕ → List ℕ
frame_behind n o = drop (n + tick_octets) o

-- octets `o` behind a key length `n` hand in a frame: a key of that length, a tick and at least a header are there, and the length is 00
-- exactly in a GSA_REKEY
abbrev pub hands_in : ℕ → List ℕ → Bool
hands_in n o =
    leb (n + (tick_octets + header_octets)) (length o) && cond (is_gsa_rekey (frame_behind n o)) (eqb n 0) (not (eqb n 0))

abbrev pub handed_by : ℕ → List ℕ → Said
handed_by n o = cond (hands_in n o) (says (handed (frame_behind n o) (take n o) (be32 o n))) other_kind

-- the step that octets say, by their first: ff "alone"; 00 with a tick "and no frame"; a frame
unfoldable pub said_of : List ℕ → Said
said_of [] = other_kind
said_of (n ∷ o) =
    cond (eqb n leaving_octet) (cond (eqb (length o) 0) (says leave) other_kind)
    (cond (eqb n 0 && eqb (length o) tick_octets) (says (sweep (be32 o 0))) (handed_by n o))

-- WHAT A LINE SAYS, by its text without the newline
unfoldable pub read_line : List ℕ → Said
read_line text = cond (is_hex text) (said_of (octets_of_hex text)) other_kind
