-- The IKE header (RFC 7296, section 3.1), 28 octets: initiator SPI 8, responder SPI 8, next payload 1, version 1 (major in the high 4
-- bits), exchange type 1, flags 1, Message ID 4, length 4; and the generic payload header (section 3.2).
use Rattle.std.specs.Prelude.{ℕ, ◌/◌, List, Bool, ◌&&◌, length, take, leb, eqb}
use Rattle.ikev2_numbers.specs.Codes.{critical_bit, exchange_at, first_payload_at, header_octets, length_at, major_version, message_id_at}
use Rattle.ikev2_numbers.specs.Codes.{minor_versions, most_octets, payload_header_octets, header_spis_octets, version_at}
use Rattle.octets.specs.Numbers.{oct}
use Rattle.octets.specs.Walk.{be32, sized}

-- what is read of an IKE header; a Rekey SA's SPI is both SPI fields (RFC 9838, section 2.4.1)
pub record Header : Type 0 where
  pub spi : List ℕ
  pub exchange : ℕ
  pub message_id : ℕ

abbrev pub header_of : List ℕ → Header
header_of s = record { spi = take header_spis_octets s; exchange = oct s exchange_at; message_id = be32 s message_id_at }

abbrev pub first_payload : List ℕ → ℕ
first_payload s = oct s first_payload_at

-- number 1: "under 28 or over 16,384 octets, header length unequal to the frame's, major version not 2"
abbrev pub header_fits : List ℕ → Bool
header_fits s =
    leb header_octets (length s) && (leb (length s) most_octets
    && (eqb (be32 s length_at) (length s) && eqb (oct s version_at / minor_versions) major_version))

-- whether a payload has its header and all the octets that it counts: next payload 1, critical bit and reserved 1, length 2 (this header
-- included)
abbrev pub payload_fits : List ℕ → Bool
payload_fits s = sized payload_header_octets s

-- the critical bit is the top one of its octet, and the rest is reserved
abbrev pub is_critical : List ℕ → Bool
is_critical s = leb critical_bit (oct s 1)
