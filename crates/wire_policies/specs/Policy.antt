-- Policies in GSA (RFC 9838, sections 4.4.2 and 4.4.3). Document 01: "protocol (6 Rekey, 3 ESP, 2 AH), SPI size (16, 4, 4), length 2, SPI,
-- source and destination traffic selector, one or more transforms, attributes. First octet 0: group-wide policy (0, reserved, length 2,
-- attributes). Another first octet breaks the layout, in KD too."
use Rattle.std.specs.Prelude.{ℕ, ◌+◌, List, Bool, cond, ◌&&◌, ◌||◌, ltb, eqb}
use Rattle.ikev2_numbers.specs.Codes.{data_spi_octets, no_protocol, policy_head_octets, protocol_ah, protocol_esp, protocol_gike_update}
use Rattle.ikev2_numbers.specs.Codes.{rekey_spi_octets, structure_length_at}
use Rattle.octets.specs.Numbers.{oct}
use Rattle.octets.specs.Walk.{be16, part, sized, Reader, mapped, opened, within, and_then, many}
use Rattle.wire_attributes.specs.Attribute.{Attribute}
use Rattle.wire_attributes.specs.Place.{in_policy}
use Rattle.wire_attributes.specs.declared.tables.Place.{Place}
use Rattle.wire_attributes.specs.declared.tables.Place.TheVariants as place
use Rattle.wire_attributes.specs.Tree.{initial_message_ids, deactivation_delays, key_lifetimes}
use Rattle.wire_attributes.specs.Layout.{attributes}
use Rattle.wire_policies.specs.Selector.{Selector, selector}
use Rattle.wire_policies.specs.Transform.{Transform, transforms}

-- THE HEAD that policies and key bags share: protocol or 0, SPI size or reserved, length, SPI. First how many octets an SPI of a protocol
-- has, 0 where there is none
abbrev pub spi_size : ℕ → ℕ
spi_size p =
    cond (eqb p protocol_gike_update) rekey_spi_octets
    (cond (eqb p protocol_esp) data_spi_octets (cond (eqb p protocol_ah) data_spi_octets 0))

-- whether a first octet is known; 0 stands for the group-wide policy and the Member Key Bag, which have no SPI
abbrev pub first_known : ℕ → Bool
first_known p = eqb p no_protocol || ltb 0 (spi_size p)

abbrev pub spi_sized : List ℕ → Bool
spi_sized s = eqb (oct s 0) no_protocol || eqb (oct s 1) (spi_size (oct s 0))

abbrev pub head_size : List ℕ → ℕ
head_size s = policy_head_octets + spi_size (oct s 0)

abbrev pub head_fits : List ℕ → Bool
head_fits s = sized (head_size s) s && (first_known (oct s 0) && spi_sized s)

abbrev pub head_spi : List ℕ → List ℕ
head_spi s = part s policy_head_octets (head_size s)

-- THE TREE
pub record GroupSaPolicy : Type 0 where
  pub protocol : ℕ
  pub spi : List ℕ
  pub source : Selector
  pub destination : Selector
  pub transforms : List Transform
  pub initial_message_ids : List ℕ
  pub key_lifetimes : List ℕ

pub record GroupWidePolicy : Type 0 where
  pub deactivation_delays : List ℕ

pub data Policy : Type 0 where
  group_sa : GroupSaPolicy → Policy
  group_wide : GroupWidePolicy → Policy

-- the transforms of a Group SA policy at the offset `h`, and the attributes after them
pub record Suite : Type 0 where
  pub transforms : List Transform
  pub attributes : List Attribute

unfoldable pub suite : ℕ → Place → Reader Suite
suite h p = and_then (transforms h) (λ ts b r. mapped (λ l. record { transforms = ts; attributes = l }) (attributes p b r))

-- what a Group SA policy at the offset `h` holds after its SPI: two selectors, one or more transforms, attributes
pub record SaBody : Type 0 where
  pub source : Selector
  pub destination : Selector
  pub suite : Suite

unfoldable pub sa_body : ℕ → Place → Reader SaBody
sa_body h p =
    and_then (selector h) (λ src.
    and_then (selector h) (λ dst b r. mapped (λ x. record { source = src; destination = dst; suite = x }) (suite h p b r)))

abbrev pub group_sa_of : List ℕ → SaBody → Policy
group_sa_of s x = group_sa (record {
  protocol = oct s 0;
  spi = head_spi s;
  source = x.source;
  destination = x.destination;
  transforms = x.suite.transforms;
  initial_message_ids = initial_message_ids (in_policy (oct s 0)) x.suite.attributes;
  key_lifetimes = key_lifetimes (in_policy (oct s 0)) x.suite.attributes;
})

abbrev pub group_wide_of : List Attribute → Policy
group_wide_of l = group_wide (record { deactivation_delays = deactivation_delays place.GroupWidePolicy l })

-- what the policy `s` at the offset `h` holds after its head
abbrev pub policy_holds : ℕ → List ℕ → Reader Policy
policy_holds h s b r =
    cond (eqb (oct s 0) no_protocol) (mapped group_wide_of (attributes place.GroupWidePolicy b r))
    (mapped (group_sa_of s) (sa_body h (in_policy (oct s 0)) b r))

unfoldable pub policy : Reader Policy
policy b s = opened b (head_fits s) (within (head_size s) (be16 s structure_length_at) (policy_holds b s) b s)

-- the policies of a GSA payload's body, to its end
abbrev pub policies : Reader (List Policy)
policies b s = many policy b s
