-- THESE OCTETS ARE THIS KEY BAG, defined without the readers (RFC 9838, sections 4.5.2 and 4.5.3). `fresh` says whether fresh keys are
-- read in the Rekey SA's bag (document 02, T-11).
use Rattle.std.specs.Prelude.{ℕ, ◌+◌, ◌<◌, ◌≤◌, ◌≡◌, List, Bool, length, drop}
use Rattle.ikev2_numbers.specs.Codes.{policy_head_octets, structure_length_at}
use Rattle.octets.specs.Numbers.{oct}
use Rattle.octets.specs.Walk.{be16, part, Row}
use Rattle.wire_attributes.specs.Attribute.{Attribute}
use Rattle.wire_attributes.specs.Place.{in_bag}
use Rattle.wire_attributes.specs.Tree.{sa_keys, wrap_keys, fresh_keys}
use Rattle.wire_attributes.specs.Grammar.{Attributes}
use Rattle.wire_attributes.specs.declared.tables.Place.TheVariants as place
use Rattle.wire_policies.specs.Policy.{spi_size}
use Rattle.wire_bags.specs.Bag.{GroupKeyBag, MemberKeyBag, Bag, group_keys, member_keys}

-- "Group Key Bag (protocol, SPI size, length 2, SPI, attributes; SA_KEY 1)"; "private attribute 16385" (document 02, T-11)
pub record IsGroupKeyBag (fresh : Bool) (o : List ℕ) (x : GroupKeyBag) : Type 0 where
  pub protocol : oct o 0 ≡ x.protocol
  pub known : 0 < spi_size x.protocol
  pub spi_octets : oct o 1 ≡ spi_size x.protocol
  pub size : be16 o structure_length_at ≡ length o
  pub least : policy_head_octets + spi_size x.protocol ≤ length o
  pub spi : part o policy_head_octets (policy_head_octets + spi_size x.protocol) ≡ x.spi
  pub attributes : List Attribute
  pub held : Attributes (in_bag fresh x.protocol) (drop (policy_head_octets + spi_size x.protocol) o) attributes
  pub keys : sa_keys (in_bag fresh x.protocol) attributes ≡ x.keys
  pub entries : fresh_keys (in_bag fresh x.protocol) attributes ≡ x.fresh

-- "Member Key Bag (0, reserved, length 2, attributes; WRAP_KEY 1, ..)"
pub record IsMemberKeyBag (o : List ℕ) (x : MemberKeyBag) : Type 0 where
  pub first : oct o 0 ≡ 0
  pub size : be16 o structure_length_at ≡ length o
  pub least : policy_head_octets ≤ length o
  pub attributes : List Attribute
  pub held : Attributes place.MemberBag (drop policy_head_octets o) attributes
  pub keys : wrap_keys place.MemberBag attributes ≡ x.keys

pub data IsBag (fresh : Bool) (o : List ℕ) : Bag → Type 0 where
  is-group : {x : GroupKeyBag} → IsGroupKeyBag fresh o x → IsBag fresh o (group_keys x)
  is_member : {x : MemberKeyBag} → IsMemberKeyBag o x → IsBag fresh o (member_keys x)

abbrev pub Bags : Bool → List ℕ → List Bag → Type 0
Bags fresh s l = Row (IsBag fresh) s l
