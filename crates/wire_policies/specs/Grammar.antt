-- THESE OCTETS ARE THIS SELECTOR, TRANSFORM, POLICY, defined without the readers.
use Rattle.std.specs.Prelude.{ℕ, ◌+◌, ◌<◌, ◌≤◌, ◌≡◌, List, ◌++◌, Bool, true, false, length, drop}
use Rattle.ikev2_numbers.specs.Codes.{addresses_at, end_port_at, last_transform, more_transforms, policy_head_octets, start_port_at}
use Rattle.ikev2_numbers.specs.Codes.{structure_length_at, transform_head_octets, transform_id_at, transform_type_at}
use Rattle.octets.specs.Numbers.{oct}
use Rattle.octets.specs.Walk.{be16, part, Spans, Row}
use Rattle.wire_attributes.specs.Attribute.{Attribute}
use Rattle.wire_attributes.specs.Place.{in_transform, in_policy}
use Rattle.wire_attributes.specs.Tree.{key_lengths, initial_message_ids, deactivation_delays, key_lifetimes}
use Rattle.wire_attributes.specs.Grammar.{Attributes}
use Rattle.wire_attributes.specs.declared.tables.Place.{Place}
use Rattle.wire_attributes.specs.declared.tables.Place.TheVariants as place
use Rattle.wire_policies.specs.Selector.{Selector, address_size, selector_size}
use Rattle.wire_policies.specs.Transform.{Transform, no_more}
use Rattle.wire_policies.specs.Policy.{spi_size, GroupSaPolicy, GroupWidePolicy, Policy, group_sa, group_wide, SaBody}

-- TS type 1, IP protocol 1, selector length 2, start port 2, end port 2, starting and ending address (RFC 7296, section 3.13.1)
pub record IsSelector (o : List ℕ) (x : Selector) : Type 0 where
  pub kind : oct o 0 ≡ x.kind
  pub known : 0 < selector_size x.kind
  pub all : length o ≡ selector_size x.kind
  pub size : be16 o structure_length_at ≡ selector_size x.kind
  pub protocol : oct o 1 ≡ x.protocol
  pub start_port : be16 o start_port_at ≡ x.start_port
  pub end_port : be16 o end_port_at ≡ x.end_port
  pub start_address : part o addresses_at (addresses_at + address_size x.kind) ≡ x.start_address
  pub end_address : drop (addresses_at + address_size x.kind) o ≡ x.end_address

-- "3 (more) or 0 (last), reserved, length 2, type, reserved, ID 2, attributes" (RFC 7296, section 3.3.2)
abbrev pub mark : Bool → ℕ
mark true = more_transforms
mark false = last_transform

pub record IsTransform (more : Bool) (o : List ℕ) (t : Transform) (next : Bool) : Type 0 where
  pub first : oct o 0 ≡ mark next
  pub size : be16 o structure_length_at ≡ length o
  pub least : transform_head_octets ≤ length o
  pub kind : oct o transform_type_at ≡ t.kind
  pub id : be16 o transform_id_at ≡ t.id
  pub attributes : List Attribute
  pub held : Attributes (in_transform t.kind) (drop transform_head_octets o) attributes
  pub key_lengths : key_lengths (in_transform t.kind) attributes ≡ t.key_lengths

-- one or more transforms, up to the last, and the octets after it
abbrev pub Transforms : List ℕ → List Transform → List ℕ → Type 0
Transforms s l rest = Spans no_more IsTransform true s l rest

-- what follows an SPI: source and destination selector, transforms, attributes
pub record IsSaBody (p : Place) (s : List ℕ) (x : SaBody) : Type 0 where
  pub source : List ℕ
  pub destination : List ℕ
  pub after : List ℕ
  pub tail : List ℕ
  pub joined : s ≡ source ++ (destination ++ after)
  pub from : IsSelector source x.source
  pub to : IsSelector destination x.destination
  pub transforms : Transforms after x.suite.transforms tail
  pub attributes : Attributes p tail x.suite.attributes

-- "protocol (6 Rekey, 3 ESP, 2 AH), SPI size (16, 4, 4), length 2, SPI, .."
pub record IsGroupSa (o : List ℕ) (x : GroupSaPolicy) : Type 0 where
  pub protocol : oct o 0 ≡ x.protocol
  pub known : 0 < spi_size x.protocol
  pub spi_octets : oct o 1 ≡ spi_size x.protocol
  pub size : be16 o structure_length_at ≡ length o
  pub least : policy_head_octets + spi_size x.protocol ≤ length o
  pub spi : part o policy_head_octets (policy_head_octets + spi_size x.protocol) ≡ x.spi
  pub body : SaBody
  pub holds : IsSaBody (in_policy x.protocol) (drop (policy_head_octets + spi_size x.protocol) o) body
  pub source : body.source ≡ x.source
  pub destination : body.destination ≡ x.destination
  pub transforms : body.suite.transforms ≡ x.transforms
  pub initial_message_ids : initial_message_ids (in_policy x.protocol) body.suite.attributes ≡ x.initial_message_ids
  pub key_lifetimes : key_lifetimes (in_policy x.protocol) body.suite.attributes ≡ x.key_lifetimes

-- "group-wide policy (0, reserved, length 2, attributes)"
pub record IsGroupWide (o : List ℕ) (x : GroupWidePolicy) : Type 0 where
  pub first : oct o 0 ≡ 0
  pub size : be16 o structure_length_at ≡ length o
  pub least : policy_head_octets ≤ length o
  pub attributes : List Attribute
  pub held : Attributes place.GroupWidePolicy (drop policy_head_octets o) attributes
  pub deactivation_delays : deactivation_delays place.GroupWidePolicy attributes ≡ x.deactivation_delays

pub data IsPolicy (o : List ℕ) : Policy → Type 0 where
  is-sa : {x : GroupSaPolicy} → IsGroupSa o x → IsPolicy o (group_sa x)
  is_wide : {x : GroupWidePolicy} → IsGroupWide o x → IsPolicy o (group_wide x)

abbrev pub Policies : List ℕ → List Policy → Type 0
Policies s l = Row IsPolicy s l
