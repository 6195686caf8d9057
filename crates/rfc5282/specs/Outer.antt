-- Document 02, T-05: "Number 1 is judged first on the outer header and the Encrypted payload, alone in the frame". The header fits, the
-- first payload is the Encrypted payload, and that one is exactly the rest of the frame.
use Rattle.std.specs.Prelude.{◌≡◌, Bool, ◌&&◌, ℕ, ◌+◌, ◌/◌, ◌≤◌, List, ◌∷◌, ◌++◌, length, drop, leb, eqb}
use Rattle.octets.specs.Numbers.{oct, number, octets_of}
use Rattle.octets.specs.Walk.{be16}
use Rattle.ikev2_numbers.specs.Codes.{first_payload_at, header_octets, length_at, major_version, minor_versions, most_octets}
use Rattle.ikev2_numbers.specs.Codes.{payload_header_octets, structure_length_at, version_at}
use Rattle.wire_frames.specs.Header.{first_payload, header_fits}
use Rattle.rfc5282.specs.Sizes.{payload_encrypted, encrypted_body_at}

-- one payload of this type, alone in the frame
unfoldable pub alone : ℕ → List ℕ → Bool
alone type s =
    header_fits s && (eqb (first_payload s) type
    && (leb encrypted_body_at (length s) && eqb (header_octets + be16 s (header_octets + structure_length_at)) (length s)))

unfoldable pub outer : List ℕ → Bool
outer s = alone payload_encrypted s

-- the same without a test: a header, the payload's header, its body, and nothing else
pub record IsAlone (type : ℕ) (s : List ℕ) : Type 0 where
  pub header : List ℕ
  pub next : ℕ
  pub reserved : ℕ
  pub body : List ℕ
  pub is : s ≡ header ++ (next ∷ reserved ∷ octets_of 2 (payload_header_octets + length body) ++ body)
  pub size : length header ≡ header_octets
  pub most : length s ≤ most_octets
  pub counts : number 4 (drop length_at header) ≡ length s
  pub version : oct header version_at / minor_versions ≡ major_version
  pub first : oct header first_payload_at ≡ type

abbrev pub IsOuter : List ℕ → Type 0
IsOuter s = IsAlone payload_encrypted s
