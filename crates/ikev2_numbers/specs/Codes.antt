-- The code numbers of IKEv2 and G-IKEv2, and the sizes and places of their fields, each with the section that gives it. `src/lib.rt` has
-- the same for the code.
use Rattle.std.specs.Prelude.{ℕ}

-- exchange types (RFC 9838, section 9.2)
abbrev pub gsa_auth : ℕ
gsa_auth = 39

abbrev pub gsa_registration : ℕ
gsa_registration = 40

abbrev pub gsa_rekey : ℕ
gsa_rekey = 41

abbrev pub gsa_inband_rekey : ℕ
gsa_inband_rekey = 42

-- payload types (RFC 7296, section 3.2; GSA and KD: RFC 9838, section 9.2). 0 ends the chain of payloads
abbrev pub no_payload : ℕ
no_payload = 0

abbrev pub payload_idr : ℕ
payload_idr = 36

abbrev pub payload_cert : ℕ
payload_cert = 37

abbrev pub payload_auth : ℕ
payload_auth = 39

abbrev pub payload_notify : ℕ
payload_notify = 41

abbrev pub payload_delete : ℕ
payload_delete = 42

abbrev pub payload_gsa : ℕ
payload_gsa = 51

abbrev pub payload_kd : ℕ
payload_kd = 52

-- security protocols (RFC 7296, section 3.3.1; GIKE_UPDATE: RFC 9838, section 4.4.2). 0 stands in their place in a group-wide policy and in
-- a Member Key Bag (RFC 9838, sections 4.4.3 and 4.5.3)
abbrev pub no_protocol : ℕ
no_protocol = 0

abbrev pub protocol_ah : ℕ
protocol_ah = 2

abbrev pub protocol_esp : ℕ
protocol_esp = 3

abbrev pub protocol_gike_update : ℕ
protocol_gike_update = 6

-- transform types (RFC 7296, section 3.3.2; KWA and GCAUTH: RFC 9838, sections 4.4.2.1.2 and 4.4.2.1.1)
abbrev pub transform_encr : ℕ
transform_encr = 1

abbrev pub transform_sn : ℕ
transform_sn = 5

abbrev pub transform_kwa : ℕ
transform_kwa = 13

abbrev pub transform_gcauth : ℕ
transform_gcauth = 14

-- transform IDs that document 01 takes beside those of its algorithm table: sequential and unspecified 32-bit sequence numbers (RFC 9838,
-- section 4.4.2.1.3), controller authentication that is implicit or by digital signature (section 4.4.2.1.1)
abbrev pub sn_sequential : ℕ
sn_sequential = 0

abbrev pub sn_unspecified : ℕ
sn_unspecified = 2

abbrev pub gcauth_implicit : ℕ
gcauth_implicit = 1

abbrev pub gcauth_digital_signature : ℕ
gcauth_digital_signature = 2

-- the first octet of a transform says whether it is the last (RFC 7296, section 3.3.2)
abbrev pub last_transform : ℕ
last_transform = 0

abbrev pub more_transforms : ℕ
more_transforms = 3

-- attribute types: of a transform (RFC 7296, section 3.3.5), a Group SA policy (RFC 9838, section 4.4.2.2), a group-wide policy (section
-- 4.4.3.1), a Group Key Bag (section 4.5.2) and a Member Key Bag (section 4.5.3)
abbrev pub attribute_key_length : ℕ
attribute_key_length = 14

abbrev pub attribute_key_lifetime : ℕ
attribute_key_lifetime = 1

abbrev pub attribute_initial_message_id : ℕ
attribute_initial_message_id = 2

abbrev pub attribute_dtd : ℕ
attribute_dtd = 2

abbrev pub attribute_sa_key : ℕ
attribute_sa_key = 1

abbrev pub attribute_wrap_key : ℕ
attribute_wrap_key = 1

-- "private attribute 16385 in the Rekey SA's Group Key Bag, with WRAP_KEY's layout" (document 02, T-11)
abbrev pub attribute_fresh_key : ℕ
attribute_fresh_key = 16385

-- traffic selector types (RFC 7296, section 3.13.1), the octets of a selector and of its addresses
abbrev pub ipv4_range : ℕ
ipv4_range = 7

abbrev pub ipv6_range : ℕ
ipv6_range = 8

abbrev pub ipv4_selector_octets : ℕ
ipv4_selector_octets = 16

abbrev pub ipv6_selector_octets : ℕ
ipv6_selector_octets = 40

abbrev pub ipv4_address_octets : ℕ
ipv4_address_octets = 4

abbrev pub ipv6_address_octets : ℕ
ipv6_address_octets = 16

-- where the fields of a selector stand (RFC 7296, section 3.13.1): start port, end port, starting address with the ending one behind it
abbrev pub start_port_at : ℕ
start_port_at = 4

abbrev pub end_port_at : ℕ
end_port_at = 6

abbrev pub addresses_at : ℕ
addresses_at = 8

-- the first octet of a group address: 224.0.0.0/4 and ff00::/8 (document 01)
abbrev pub ipv4_group_first : ℕ
ipv4_group_first = 224

abbrev pub ipv4_group_last : ℕ
ipv4_group_last = 239

abbrev pub ipv6_group : ℕ
ipv6_group = 255

-- the IKE header (RFC 7296, section 3.1): its octets, and where its fields stand. The version octet divided by the number of minor versions
-- is the major version. Document 01: a frame has at most 16,384 octets
abbrev pub header_octets : ℕ
header_octets = 28

abbrev pub most_octets : ℕ
most_octets = 16384

abbrev pub first_payload_at : ℕ
first_payload_at = 16

abbrev pub version_at : ℕ
version_at = 17

abbrev pub exchange_at : ℕ
exchange_at = 18

abbrev pub flags_at : ℕ
flags_at = 19

abbrev pub message_id_at : ℕ
message_id_at = 20

abbrev pub length_at : ℕ
length_at = 24

abbrev pub major_version : ℕ
major_version = 2

abbrev pub minor_versions : ℕ
minor_versions = 16

-- the generic payload header (RFC 7296, section 3.2): its octets, the critical bit, where the length stands in it. Policies, key bags,
-- selectors and transforms have their length in the same place
abbrev pub payload_header_octets : ℕ
payload_header_octets = 4

abbrev pub critical_bit : ℕ
critical_bit = 128

abbrev pub structure_length_at : ℕ
structure_length_at = 2

-- octets of the fixed fields: of a Delete payload's body (RFC 7296, section 3.11), of a policy or key bag up to its SPI (RFC 9838, sections
-- 4.4.2 and 4.5.2), of a transform (RFC 7296, section 3.3.2)
abbrev pub delete_head_octets : ℕ
delete_head_octets = 4

abbrev pub policy_head_octets : ℕ
policy_head_octets = 4

abbrev pub transform_head_octets : ℕ
transform_head_octets = 8

-- where the type and the ID of a transform stand, and the count of SPIs in a Delete payload's body (the same sections)
abbrev pub transform_type_at : ℕ
transform_type_at = 4

abbrev pub transform_id_at : ℕ
transform_id_at = 6

abbrev pub delete_count_at : ℕ
delete_count_at = 2

-- octets of an SPI, by protocol (RFC 9838, section 4.4.2)
abbrev pub data_spi_octets : ℕ
data_spi_octets = 4

abbrev pub rekey_spi_octets : ℕ
rekey_spi_octets = 16

-- the initiator's and the responder's SPI in the IKE header, 8 octets each (RFC 7296, section 3.1)
abbrev pub header_spis_octets : ℕ
header_spis_octets = 16

-- attributes (RFC 7296, section 3.3.5): the format bit, the octets of type and length, and of a type with its value in short form
abbrev pub format_bit : ℕ
format_bit = 32768

abbrev pub attribute_head_octets : ℕ
attribute_head_octets = 4

-- a short attribute: type 2, value 2
abbrev pub short_attribute_octets : ℕ
short_attribute_octets = 4

abbrev pub short_head_octets : ℕ
short_head_octets = 2

-- the value of SA_KEY and WRAP_KEY: Key ID and KWK ID of four octets each, then 16 to 264 wrapped octets in blocks of 8 (document 01). The
-- least and the most octets are those of the whole value
abbrev pub kwk_id_at : ℕ
kwk_id_at = 4

abbrev pub wrapped_at : ℕ
wrapped_at = 8

abbrev pub least_key_value : ℕ
least_key_value = 24

abbrev pub most_key_value : ℕ
most_key_value = 272

abbrev pub wrapped_block : ℕ
wrapped_block = 8
