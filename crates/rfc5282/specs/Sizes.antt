-- Numbers of the Encrypted payload (RFC 7296, section 3.14) and of the Encrypted Fragment payload (RFC 7383) under AES-GCM with a tag of 16
-- octets (RFC 5282), and places in a frame that has no other payload. `src/lib.rt` has the same for the code.
use Rattle.std.specs.Prelude.{ℕ, ◌+◌}
use Rattle.ikev2_numbers.specs.Codes.{header_octets, payload_header_octets}
use Rattle.sp800_38d.specs.Encryption.{tag_octets}

-- the payloads' types
abbrev pub payload_encrypted : ℕ
payload_encrypted = 46

abbrev pub payload_fragment : ℕ
payload_fragment = 53

-- RFC 5282, section 7.1: the last four octets of the keying material are the salt; section 3.1: the IV has eight
abbrev pub salt_octets : ℕ
salt_octets = 4

abbrev pub iv_octets : ℕ
iv_octets = 8

-- the pad length is one octet, so it counts no more (RFC 7296, section 3.14)
abbrev pub most_padding : ℕ
most_padding = 255

-- the payload's body, IV and then ciphertext and tag
abbrev pub encrypted_body_at : ℕ
encrypted_body_at = header_octets + payload_header_octets

abbrev pub ciphertext_at : ℕ
ciphertext_at = encrypted_body_at + iv_octets

-- RFC 7383, section 2.5: Fragment Number and Total Fragments, two octets each, stand before the IV
abbrev pub fragment_field_octets : ℕ
fragment_field_octets = 2

abbrev pub fragment_number_at : ℕ
fragment_number_at = encrypted_body_at

abbrev pub total_fragments_at : ℕ
total_fragments_at = fragment_number_at + fragment_field_octets

abbrev pub fragment_body_at : ℕ
fragment_body_at = total_fragments_at + fragment_field_octets

-- no field of two octets is above it
abbrev pub fragment_field_most : ℕ
fragment_field_most = 65535

-- the least octets of a body: the IV, a pad length enciphered, the tag
abbrev pub least_body : ℕ
least_body = iv_octets + 1 + tag_octets
