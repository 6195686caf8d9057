-- WHERE A FRAME BREAKS, defined without the readers. Document 02, T-06: "Number 1 carries the offset of the innermost payload, policy, bag,
-- selector, transform or attribute whose layout broke first, or 0 for the header .. what is missing or left over counts for its holder, for
-- payloads the header." The levels below: specs/Breaks of `octets`, `wire_attributes`, `wire_policies`, `wire_bags`. `fresh` says whether
-- fresh keys are read in the frame, `profile` whether the member that gets it has the profile for them (document 02, T-11).
use Rattle.std.specs.Prelude.{ℕ, ◌+◌, ◌*◌, ◌/◌, ◌<◌, ◌≡◌, List, Bool, length, drop}
use Rattle.ikev2_numbers.specs.Codes.{data_spi_octets, delete_count_at, delete_head_octets, exchange_at, first_payload_at, header_octets}
use Rattle.ikev2_numbers.specs.Codes.{length_at, major_version, minor_versions, most_octets, payload_delete, payload_gsa}
use Rattle.ikev2_numbers.specs.Codes.{payload_header_octets, payload_kd, protocol_esp, structure_length_at, version_at}
use Rattle.octets.specs.Numbers.{oct}
use Rattle.octets.specs.Walk.{be16, be32, part, Spans}
use Rattle.octets.specs.Breaks.{FaultOfLength, BreaksStructure, BreaksDue, BreaksInChain}
use Rattle.wire_policies.specs.Breaks.{BreaksPolicies}
use Rattle.wire_bags.specs.Breaks.{BreaksBags}
use Rattle.wire_frames.specs.Exchange.{reads_fresh}
use Rattle.wire_frames.specs.Frame.{Payload, none_next}
use Rattle.wire_frames.specs.Grammar.{IsPayload}

-- the body of D: "protocol, SPI size, count 2, SPIs; size times count fills the body, and the size is 4 for ESP"
pub data FaultOfDelete (s : List ℕ) : Type 0 where
  cut : length s < delete_head_octets → FaultOfDelete s
  unfilled : (delete_head_octets + oct s 1 * be16 s delete_count_at ≡ length s → ⊥) → FaultOfDelete s
  other-size : oct s 0 ≡ protocol_esp → (oct s 1 ≡ data_spi_octets → ⊥) → FaultOfDelete s

-- A PAYLOAD of the kind `k`, and `s` the octets from its first on, to the end of the frame: "next payload, critical bit and reserved,
-- length 2 (header included)". D's body holds none of the six structures, so its faults are the payload's own
pub data FaultOfPayload (k : ℕ) (s : List ℕ) : Type 0 where
  by_length : FaultOfLength payload_header_octets s → FaultOfPayload k s
  in-delete : k ≡ payload_delete → FaultOfDelete (part s payload_header_octets (be16 s structure_length_at)) → FaultOfPayload k s

-- what a payload of the kind `k` holds: policies in GSA, key bags in KD, nothing that is read in any other
pub data BreaksContent (fresh : Bool) (k b : ℕ) (s : List ℕ) (o : ℕ) : Type 0 where
  in-gsa : k ≡ payload_gsa → BreaksPolicies b s o → BreaksContent fresh k b s o
  in-kd : k ≡ payload_kd → BreaksBags fresh b s o → BreaksContent fresh k b s o

-- a payload that "next payload" names is missing if it has not a single octet; it counts for the header, at 0
abbrev pub BreaksPayload : Bool → ℕ → ℕ → List ℕ → ℕ → Type 0
BreaksPayload fresh k b s o =
    BreaksDue 0 s
    (BreaksStructure (FaultOfPayload k s)
    (BreaksContent fresh k (b + payload_header_octets) (part s payload_header_octets (be16 s structure_length_at)) o) b o) o

-- THE HEADER: "under 28 or over 16,384 octets, header length unequal to the frame's, major version not 2"
pub data FaultOfHeader (s : List ℕ) : Type 0 where
  under : length s < header_octets → FaultOfHeader s
  over : most_octets < length s → FaultOfHeader s
  other_length : (be32 s length_at ≡ length s → ⊥) → FaultOfHeader s
  other-version : (oct s version_at / minor_versions ≡ major_version → ⊥) → FaultOfHeader s

-- what the header of the frame `s` holds: payloads up to the one with next payload 0, which "ends the frame exactly at its length"
pub data BreaksPayloads (fresh : Bool) (s : List ℕ) (o : ℕ) : Type 0 where
  in-payload : BreaksInChain none_next (IsPayload fresh) (BreaksPayload fresh) (oct s first_payload_at) header_octets (drop header_octets s) o
      → BreaksPayloads fresh s o
  left_over : {l : List Payload} {rest : List ℕ} → Spans none_next (IsPayload fresh) (oct s first_payload_at) (drop header_octets s) l rest
      → 0 < length rest → o ≡ 0
      → BreaksPayloads fresh s o

-- A FRAME. The exchange type says whether a member with the profile reads fresh keys
abbrev pub BreaksFrame : Bool → List ℕ → ℕ → Type 0
BreaksFrame profile s o = BreaksStructure (FaultOfHeader s) (BreaksPayloads (reads_fresh profile (oct s exchange_at)) s o) 0 o
