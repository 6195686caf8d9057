-- Document 02, T-05, number 10: "A body under 25 octets, a bad tag or a pad length above the octets before it is a new number 10 .. A room
-- under 16,384 octets is 10 too." Which of the four it is does not matter. T-12: "T-05's 25 octets follow those 4".
use Rattle.std.specs.Prelude.{ℕ, ◌-◌, ◌<◌, ◌≤◌, List, length}
use Rattle.octets.specs.Numbers.{oct}
use Rattle.ikev2_numbers.specs.Codes.{most_octets}
use Rattle.sp800_38d.specs.Decryption.{Unseals}
use Rattle.rfc5282.specs.Sizes.{encrypted_body_at, fragment_body_at, least_body}
use Rattle.rfc5282.specs.Keys.{aes_key_of, salt_of, sealed_in, nonce_for, additional_in}
use Rattle.rfc5282.specs.SealedFrame.{OpensFrame}
use Rattle.rfc5282.specs.SealedFragment.{OpensFragment}

-- `x` are the plain octets of the sealed frame `s`, whose body begins at `at`: the payloads, the padding, the pad length
abbrev pub PlainIn : ℕ → List ℕ → List ℕ → List ℕ → Type 0
PlainIn at part s x = Unseals (aes_key_of part) (nonce_for at part s) (additional_in at s) (sealed_in at s) x

pub data UnopenedAt (at : ℕ) (part s room : List ℕ) : Type 0 where
  -- "a body under 25 octets"
  short-body : length s - at < least_body → UnopenedAt at part s room
  -- "a bad tag": there are no octets that seal to these
  bad-tag : ((x : List ℕ) → PlainIn at part s x → ⊥) → UnopenedAt at part s room
  -- "a pad length above the octets before it"
  long-padding : (x : List ℕ) → PlainIn at part s x → length x - 1 < oct x (length x - 1) → UnopenedAt at part s room
  -- "a room under 16,384 octets"
  small-room : length room < most_octets → UnopenedAt at part s room

-- of a frame, and of a fragment
abbrev pub Unopened : List ℕ → List ℕ → List ℕ → Type 0
Unopened part s room = UnopenedAt encrypted_body_at part s room

abbrev pub UnopenedFragment : List ℕ → List ℕ → List ℕ → Type 0
UnopenedFragment part s room = UnopenedAt fragment_body_at part s room

-- else: the frame opens to `opened`, the fragment to `piece`, and the room has 16,384 octets
pub record OpensInto (part s room opened : List ℕ) : Type 0 where
  pub opens : OpensFrame (aes_key_of part) (salt_of part) s opened
  pub holds : most_octets ≤ length room

pub record OpensFragmentInto (part s room piece : List ℕ) : Type 0 where
  pub opens : OpensFragment (aes_key_of part) (salt_of part) s piece
  pub holds : most_octets ≤ length room
