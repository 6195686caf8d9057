-- A frame whose one payload is an Encrypted payload, made from the opened frame that is sealed in it.
use Rattle.std.specs.Prelude.{◌≡◌, ℕ, ◌+◌, ◌<◌, ◌≤◌, List, [], ◌∷◌, ◌++◌, length, take, drop}
use Rattle.octets.specs.Numbers.{oct, number, octets_of}
use Rattle.octets.specs.Octets.{Octets}
use Rattle.ikev2_numbers.specs.Codes.{first_payload_at, header_octets, length_at, most_octets, payload_header_octets, version_at}
use Rattle.sp800_38d.specs.Encryption.{tag_octets, sealed}
use Rattle.rfc5282.specs.Sizes.{payload_encrypted, iv_octets, most_padding, encrypted_body_at}

-- what a sender chooses: the octet with the critical bit, the IV, the padding
pub record Choice : Type 0 where
  pub reserved : ℕ
  pub iv : List ℕ
  pub padding : List ℕ

pub record FitChoice (c : Choice) : Type 0 where
  pub reserved-small : c.reserved < 256
  pub iv-size : length c.iv ≡ iv_octets
  pub iv-small : Octets c.iv
  pub padding-most : length c.padding ≤ most_padding
  pub padding-small : Octets c.padding

-- an IKE header with another next payload and another length; SPIs, version, exchange, flags and Message ID stay
unfoldable pub header_with : ℕ → ℕ → List ℕ → List ℕ
header_with next size h = take first_payload_at h ++ ((next ∷ take 7 (drop version_at h)) ++ octets_of 4 size)

-- RFC 7296, section 3.14: the payloads, the padding, the pad length
unfoldable pub with_padding : List ℕ → Choice → List ℕ
with_padding payloads c = payloads ++ (c.padding ++ (length c.padding ∷ []))

-- octets of the payload's body: IV, ciphertext, tag
unfoldable pub body_size : List ℕ → Choice → ℕ
body_size payloads c = iv_octets + length (with_padding payloads c) + tag_octets

-- the body behind the additional data: the IV, then the payloads sealed under an AES key and its salt
unfoldable pub sealed_behind : List ℕ → List ℕ → List ℕ → List ℕ → Choice → List ℕ
sealed_behind key salt additional payloads c =
    additional ++ (c.iv ++ sealed key (salt ++ c.iv) additional (with_padding payloads c))

-- the two headers: the frame's next payload is the Encrypted payload, and that one's next payload is the first of those within
unfoldable pub additional_of : List ℕ → Choice → List ℕ
additional_of opened c =
    header_with payload_encrypted (encrypted_body_at + body_size (drop header_octets opened) c) opened
    ++ (oct opened first_payload_at ∷ c.reserved ∷ octets_of 2 (payload_header_octets + body_size (drop header_octets opened) c))

-- THE OPENED FRAME, SEALED under an AES key and its salt
unfoldable pub sealed_frame : List ℕ → List ℕ → List ℕ → Choice → List ℕ
sealed_frame key salt opened c = sealed_behind key salt (additional_of opened c) (drop header_octets opened) c

-- an opened frame: octets, a header that counts them
pub record OpenedFrame (o : List ℕ) : Type 0 where
  pub small : Octets o
  pub header : header_octets ≤ length o
  pub counted : number 4 (drop length_at o) ≡ length o

-- A FRAME OPENS to an opened frame exactly when sealing that one yields it, by some choice of the sender. It has at most 16,384 octets
pub record OpensFrame (key salt octets opened : List ℕ) : Type 0 where
  pub choice : Choice
  pub fit : FitChoice choice
  pub is-frame : OpenedFrame opened
  pub most : length octets ≤ most_octets
  pub seals : sealed_frame key salt opened choice ≡ octets
