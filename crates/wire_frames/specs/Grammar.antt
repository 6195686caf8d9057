-- THESE OCTETS ARE THIS PAYLOAD, THIS FRAME, defined without the readers (RFC 7296, sections 3.1, 3.2 and 3.11).
-- `fresh` says whether fresh keys are read in the frame, `profile` whether the member that gets it has the profile for them (document 02,
-- T-11).
use Rattle.std.specs.Prelude.{ℕ, ◌/◌, ◌≤◌, ◌≡◌, List, [], ◌∷◌, ◌++◌, Bool, length, take, drop, leb}
use Rattle.ikev2_numbers.specs.Codes.{critical_bit, data_spi_octets, delete_count_at, delete_head_octets, exchange_at, first_payload_at}
use Rattle.ikev2_numbers.specs.Codes.{header_octets, length_at, major_version, message_id_at, minor_versions, most_octets, payload_delete}
use Rattle.ikev2_numbers.specs.Codes.{payload_gsa, payload_header_octets, payload_kd, protocol_esp, header_spis_octets, structure_length_at}
use Rattle.ikev2_numbers.specs.Codes.{version_at}
use Rattle.octets.specs.Numbers.{oct}
use Rattle.octets.specs.Walk.{be16, be32, Spans}
use Rattle.wire_policies.specs.Policy.{Policy}
use Rattle.wire_policies.specs.Grammar.{Policies}
use Rattle.wire_bags.specs.Bag.{Bag}
use Rattle.wire_bags.specs.Grammar.{Bags}
use Rattle.wire_frames.specs.Delete.{Delete}
use Rattle.wire_frames.specs.Exchange.{reads_fresh}
use Rattle.wire_frames.specs.Frame.{Content, gsa, kd, delete, unread, Payload, none_next, Frame}

-- SPIs of `k` octets each
pub data Each (k : ℕ) : List (List ℕ) → Type 0 where
  none : Each k []
  more : {o : List ℕ} {l : List (List ℕ)} → length o ≡ k → Each k l → Each k (o ∷ l)

unfoldable pub joined : List (List ℕ) → List ℕ
joined [] = []
joined (o ∷ l) = o ++ joined l

-- "protocol, SPI size, count 2, SPIs; size times count fills the body, and the size is 4 for ESP"
pub record IsDelete (s : List ℕ) (d : Delete) : Type 0 where
  pub least : delete_head_octets ≤ length s
  pub protocol : oct s 0 ≡ d.protocol
  pub count : be16 s delete_count_at ≡ length d.spis
  pub each : Each (oct s 1) d.spis
  pub spis : drop delete_head_octets s ≡ joined d.spis
  pub esp : d.protocol ≡ protocol_esp → oct s 1 ≡ data_spi_octets

-- the octets `s` are the body of a payload of the kind `k`
pub data IsContent (fresh : Bool) (k : ℕ) (s : List ℕ) : Content → Type 0 where
  is-gsa : {l : List Policy} → k ≡ payload_gsa → Policies s l → IsContent fresh k s (gsa l)
  is-kd : {l : List Bag} → k ≡ payload_kd → Bags fresh s l → IsContent fresh k s (kd l)
  is-delete : {d : Delete} → k ≡ payload_delete → IsDelete s d → IsContent fresh k s (delete d)
  is-unread : (k ≡ payload_gsa → ⊥) → (k ≡ payload_kd → ⊥) → (k ≡ payload_delete → ⊥) → IsContent fresh k s unread

-- "Payload: next payload, critical bit and reserved, length 2 (header included)"
pub record IsPayload (fresh : Bool) (k : ℕ) (o : List ℕ) (x : Payload) (next : ℕ) : Type 0 where
  pub kind : k ≡ x.kind
  pub following : oct o 0 ≡ next
  -- the critical bit is the top one of the octet
  pub critical : leb critical_bit (oct o 1) ≡ x.critical
  pub size : be16 o structure_length_at ≡ length o
  pub least : payload_header_octets ≤ length o
  pub content : IsContent fresh k (drop payload_header_octets o) x.content

-- "a plain 28-octet IKE header .., then the opened payloads"; "Next payload 0 ends the frame exactly at its length". The exchange type says
-- whether a member with the profile reads fresh keys
pub record IsFrame (profile : Bool) (s : List ℕ) (x : Frame) : Type 0 where
  pub least : header_octets ≤ length s
  pub most : length s ≤ most_octets
  pub size : be32 s length_at ≡ length s
  pub major : oct s version_at / minor_versions ≡ major_version
  pub spi : take header_spis_octets s ≡ x.header.spi
  pub exchange : oct s exchange_at ≡ x.header.exchange
  pub message_id : be32 s message_id_at ≡ x.header.message_id
  pub payloads : Spans none_next (IsPayload (reads_fresh profile x.header.exchange)) (oct s first_payload_at) (drop header_octets s)
      x.payloads []
