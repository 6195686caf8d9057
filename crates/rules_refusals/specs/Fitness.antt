-- What the destination of a Rekey policy and the transforms of a policy must be, and the keying octets that transforms need.
use Rattle.std.specs.Prelude.{ℕ, ◌+◌, List, [], ◌∷◌, Bool, true, false, cond, ◌&&◌, ◌||◌, length, leb, eqb, Option, is_some, unwrap_or}
use Rattle.ikev2_numbers.specs.Codes.{gcauth_digital_signature, gcauth_implicit, ipv4_group_first, ipv4_group_last, ipv4_range, ipv6_group}
use Rattle.ikev2_numbers.specs.Codes.{protocol_ah, sn_sequential, sn_unspecified, transform_encr, transform_gcauth, transform_kwa, transform_sn}
use Rattle.octets.specs.Numbers.{oct}
use Rattle.octets.specs.Compare.{same}
use Rattle.lists.specs.Lists.{all, any, count}
use Rattle.state_keys.specs.Algorithms.{needed_by}
use Rattle.state_sa.specs.Entry.{esp_protocol, rekey_protocol}
use Rattle.wire_policies.specs.Selector.{Selector}
use Rattle.wire_policies.specs.Transform.{Transform}
use Rattle.wire_policies.specs.Policy.{GroupSaPolicy}

-- protocol AH (RFC 9838, section 4.4.2)
abbrev pub ah : ℕ
ah = protocol_ah

abbrev pub is_esp : GroupSaPolicy → Bool
is_esp p = eqb p.protocol esp_protocol

abbrev pub is_rekey : GroupSaPolicy → Bool
is_rekey p = eqb p.protocol rekey_protocol

-- ---- "one address (start equals end) in 224.0.0.0/4 or ff00::/8 and one port": selector type 7 is IPv4, 8 IPv6 (RFC 7296, section
-- 3.13.1); RFC 9838, section 4.4.2, wants "a single multicast IP address" and "a single port". An IPv4 address in 224.0.0.0/4 has a first
-- octet of 224 to 239, an IPv6 address in ff00::/8 one of 255
unfoldable pub multicast : ℕ → List ℕ → Bool
multicast kind a = cond (eqb kind ipv4_range) (leb ipv4_group_first (oct a 0) && leb (oct a 0) ipv4_group_last) (eqb (oct a 0) ipv6_group)

unfoldable pub one_group_address : Selector → Bool
one_group_address s =
    same s.start_address s.end_address && (multicast s.kind s.start_address && eqb s.start_port s.end_port)

-- ---- "Transforms: type 1 is a row of the algorithm table. ESP has exactly one of type 1 and one of type 5 (Sequence Numbers) with ID 0
-- or 2 (001 bars ID 1). Rekey has exactly one each of type 1, type 13 (one of the three) and the controller authentication type, either
-- method." RFC 9838, section 4.4.2.1.1: that type is 14, its methods are Implicit (1) and Digital Signature (2); section 4.4.2.1.3:
-- Sequence Numbers 2 are "32-bit Unspecified Numbers", and 1, "Partially Transmitted 64-bit Sequential Numbers", "MUST NOT be used"
abbrev pub octets_needed : Option ℕ → ℕ
octets_needed n = unwrap_or n 0

abbrev pub is_octets : Option ℕ → Bool
is_octets n = is_some n

-- with one of its Key Lengths it is a row of the algorithm table
unfoldable pub encryption_fits : Transform → Bool
encryption_fits t = eqb t.kind transform_encr && any (λ (b : ℕ). is_octets (needed_by transform_encr t.id b)) t.key_lengths

unfoldable pub key_wrap_fits : Transform → Bool
key_wrap_fits t = eqb t.kind transform_kwa && is_octets (needed_by transform_kwa t.id 0)

unfoldable pub sequence_numbers_fit : Transform → Bool
sequence_numbers_fit t = eqb t.kind transform_sn && (eqb t.id sn_sequential || eqb t.id sn_unspecified)

unfoldable pub authentication_fits : Transform → Bool
authentication_fits t = eqb t.kind transform_gcauth && (eqb t.id gcauth_implicit || eqb t.id gcauth_digital_signature)

-- for each test of `wanted` exactly one transform of `l` passes it, and `l` has as many transforms as there are tests
unfoldable pub exact_transforms : List (Transform → Bool) → List Transform → Bool
exact_transforms wanted l = eqb (length l) (length wanted) && all (λ (p : Transform → Bool). eqb (count p l) 1) wanted

abbrev pub esp_transforms : List (Transform → Bool)
esp_transforms = encryption_fits ∷ sequence_numbers_fit ∷ []

-- the exchange decides whether a Rekey policy has the controller authentication type
abbrev pub rekey_transforms : Bool → List (Transform → Bool)
rekey_transforms authentication =
    cond authentication (encryption_fits ∷ key_wrap_fits ∷ authentication_fits ∷ []) (encryption_fits ∷ key_wrap_fits ∷ [])

unfoldable pub transforms_fit : Bool → GroupSaPolicy → Bool
transforms_fit authentication p =
    cond (is_esp p) (exact_transforms esp_transforms p.transforms)
    (is_rekey p && exact_transforms (rekey_transforms authentication) p.transforms)

-- ---- "An ESP SA needs the first number, a Rekey SA the sum of both": the octets that the transforms of a policy need. If they are fit,
-- one of them is of type 1 and, in a Rekey policy, one is of type 13
unfoldable pub sum : {A : Type 0} → (A → ℕ) → List A → ℕ
sum f [] = 0
sum f (a ∷ l) = f a + sum f l

abbrev pub encryption_needs : Transform → ℕ
encryption_needs t = cond (eqb t.kind transform_encr) (sum (λ (b : ℕ). octets_needed (needed_by transform_encr t.id b)) t.key_lengths) 0

abbrev pub key_wrap_needs : Transform → ℕ
key_wrap_needs t = cond (eqb t.kind transform_kwa) (octets_needed (needed_by transform_kwa t.id 0)) 0

unfoldable pub encryption_octets : GroupSaPolicy → ℕ
encryption_octets p = sum encryption_needs p.transforms

unfoldable pub key_wrap_octets : GroupSaPolicy → ℕ
key_wrap_octets p = sum key_wrap_needs p.transforms
