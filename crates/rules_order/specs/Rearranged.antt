-- A FRAME REARRANGED, on octets. Document 02, T-14: "put its policies, bags, WRAP_KEY entries and the SA_KEY copies in any other order
-- within what holds them, with the payloads keeping theirs". Two frames are compared stretch by stretch. A payload, a policy and a bag is
-- the stretch that its own length field counts, an attribute the stretch of its format: no reader takes part, and no tree. So a frame is
-- rearranged in the same ways for every member.
use Rattle.std.specs.Prelude.{ℕ, ◌+◌, ◌≤◌, ◌≡◌, List, [], ◌++◌, length}
use Rattle.ikev2_numbers.specs.Codes.{first_payload_at, header_octets, no_payload, payload_gsa, payload_header_octets, payload_kd}
use Rattle.ikev2_numbers.specs.Codes.{policy_head_octets, structure_length_at}
use Rattle.octets.specs.Numbers.{oct}
use Rattle.octets.specs.Walk.{be16}
use Rattle.wire_attributes.specs.Attribute.{Attribute}
use Rattle.wire_attributes.specs.Grammar.{Format}
use Rattle.wire_policies.specs.Policy.{spi_size}
use Rattle.wire_frames.specs.Grammar.{joined}
use Rattle.rules_refusals.specs.Reordered.{AnyOrder}
use Rattle.rules_chains.specs.Chain.{In}

-- one payload, policy or bag: its length field says how many octets it has, those before the field and the field's own among them
pub record CountsItself (o : List ℕ) : Type 0 where
  pub least : policy_head_octets ≤ length o
  pub size : be16 o structure_length_at ≡ length o

-- one attribute, be it read or skipped: "top bit 1: 15-bit type and 2-octet value. Top bit 0: type, length 2, value"
pub record OneAttribute (o : List ℕ) : Type 0 where
  pub attribute : Attribute
  pub format : Format o attribute

-- "in any other order within what holds them": `s` is stretches that fit one after the other, and `t` is these in any order, each replaced
-- by one that `Same` relates to it
pub record Moved (Fits : List ℕ → Type 0) (Same : List ℕ → List ℕ → Type 0) (s t : List ℕ) : Type 0 where
  pub stretches : List (List ℕ)
  pub others : List (List ℕ)
  pub each : (o : List ℕ) → In o stretches → Fits o
  pub order : AnyOrder Same stretches others
  pub from : joined stretches ≡ s
  pub to : joined others ≡ t

-- a bag: the same head ("protocol, SPI size, length 2, SPI", or "0, reserved, length 2"), then the same attributes in any order: SA_KEY
-- copies, WRAP_KEY entries, the private entries of T-11, and those that are skipped
pub record BagRearranged (o p : List ℕ) : Type 0 where
  pub head : List ℕ
  pub size : length head ≡ policy_head_octets + spi_size (oct head 0)
  pub held : List ℕ
  pub others : List ℕ
  pub moved : Moved OneAttribute ◌≡◌ held others
  pub from : o ≡ head ++ held
  pub to : p ≡ head ++ others

-- the body of a payload of the kind `k`: a GSA with the same policies in any order, a KD with the same bags in any order, each of them
-- rearranged, or any body octet for octet
pub data BodyRearranged (k : ℕ) (s t : List ℕ) : Type 0 where
  in-gsa : k ≡ payload_gsa → Moved CountsItself ◌≡◌ s t → BodyRearranged k s t
  in-kd : k ≡ payload_kd → Moved CountsItself BagRearranged s t → BodyRearranged k s t
  as-it-is : s ≡ t → BodyRearranged k s t

-- a payload: "next payload, critical bit and reserved, length 2" as they were, and its body rearranged
pub record PayloadRearranged (k : ℕ) (o p : List ℕ) : Type 0 where
  pub counts : CountsItself o
  pub head : List ℕ
  pub size : length head ≡ payload_header_octets
  pub body : List ℕ
  pub other : List ℕ
  pub rearranged : BodyRearranged k body other
  pub from : o ≡ head ++ body
  pub to : p ≡ head ++ other

-- "with the payloads keeping theirs": payloads one after the other in the same order, the first of the kind `k`; each names the kind of the
-- next
pub data PayloadsRearranged : ℕ → List ℕ → List ℕ → Type 0 where
  no-more : PayloadsRearranged no_payload [] []
  one_more : {k : ℕ} (o p : List ℕ) {s t : List ℕ} → PayloadRearranged k o p → PayloadsRearranged (oct o 0) s t →
      PayloadsRearranged k (o ++ s) (p ++ t)

-- the frame `others` is the frame `octets` rearranged: the header as it was, and the payloads
pub record Rearranged (octets others : List ℕ) : Type 0 where
  pub header : List ℕ
  pub size : length header ≡ header_octets
  pub payloads : List ℕ
  pub moved : List ℕ
  pub rearranged : PayloadsRearranged (oct header first_payload_at) payloads moved
  pub from : octets ≡ header ++ payloads
  pub to : others ≡ header ++ moved
