-- A frame whose one payload is an Encrypted Fragment payload (RFC 7383, section 2.5), made from the piece that is sealed in it: next
-- payload, reserved, length, Fragment Number, Total Fragments, and then what an Encrypted payload has as its body.
use Rattle.std.specs.Prelude.{◌≡◌, ℕ, ◌+◌, ◌-◌, ◌<◌, ◌≤◌, List, ◌∷◌, ◌++◌, length}
use Rattle.octets.specs.Numbers.{octets_of}
use Rattle.octets.specs.Octets.{Octets}
use Rattle.ikev2_numbers.specs.Codes.{header_octets, most_octets}
use Rattle.rfc5282.specs.Sizes.{payload_fragment, fragment_field_octets, fragment_field_most, fragment_body_at}
use Rattle.rfc5282.specs.SealedFrame.{Choice, FitChoice, header_with, body_size, sealed_behind}

-- the two headers and the two numbers; next payload and length of `header` are set anew
unfoldable pub fragment_additional : List ℕ → ℕ → ℕ → ℕ → List ℕ → Choice → List ℕ
fragment_additional header next number total piece c =
    header_with payload_fragment (fragment_body_at + body_size piece c) header
    ++ (next ∷ c.reserved ∷ octets_of 2 (fragment_body_at - header_octets + body_size piece c)
    ++ (octets_of fragment_field_octets number ++ octets_of fragment_field_octets total))

-- THE PIECE, SEALED as fragment `number` of `total` under an AES key and its salt
unfoldable pub sealed_fragment : List ℕ → List ℕ → List ℕ → ℕ → ℕ → ℕ → List ℕ → Choice → List ℕ
sealed_fragment key salt header next number total piece c =
    sealed_behind key salt (fragment_additional header next number total piece c) piece c

-- A FRAGMENT OPENS to a piece exactly when sealing that one yields it, by some choice of the sender. It has at most 16,384 octets
pub record OpensFragment (key salt octets piece : List ℕ) : Type 0 where
  pub choice : Choice
  pub fit : FitChoice choice
  pub header : List ℕ
  pub header-size : length header ≡ header_octets
  pub header-small : Octets header
  pub next : ℕ
  pub next_small : next < 256
  pub number : ℕ
  pub number-most : number ≤ fragment_field_most
  pub total : ℕ
  pub total-most : total ≤ fragment_field_most
  pub piece-small : Octets piece
  pub most : length octets ≤ most_octets
  pub seals : sealed_fragment key salt header next number total piece choice ≡ octets
