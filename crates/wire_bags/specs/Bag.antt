-- Key bags (RFC 9838, section 4.5). Document 01: "Group Key Bag (protocol, SPI size, length 2, SPI, attributes; SA_KEY 1) or Member Key Bag
-- (0, reserved, length 2, attributes; WRAP_KEY 1, AUTH_KEY 2, GM_SENDER_ID 3)". Document 02, T-11: "private attribute 16385 in the Rekey
-- SA's Group Key Bag, with WRAP_KEY's layout". In these definitions `fresh` says whether fresh keys are read in the Rekey SA's bag.
use Rattle.std.specs.Prelude.{ℕ, List, Bool, cond, eqb}
use Rattle.ikev2_numbers.specs.Codes.{no_protocol, structure_length_at}
use Rattle.octets.specs.Numbers.{oct}
use Rattle.octets.specs.Walk.{be16, Reader, mapped, opened, within, many}
use Rattle.wire_attributes.specs.Attribute.{Attribute}
use Rattle.wire_attributes.specs.Place.{in_bag}
use Rattle.wire_attributes.specs.declared.tables.Place.{Place}
use Rattle.wire_attributes.specs.declared.tables.Place.TheVariants as place
use Rattle.wire_attributes.specs.Tree.{SaKey, WrapKey, sa_keys, wrap_keys, fresh_keys}
use Rattle.wire_attributes.specs.Layout.{attributes}
use Rattle.wire_policies.specs.Policy.{head_size, head_fits, head_spi}

pub record GroupKeyBag : Type 0 where
  pub protocol : ℕ
  pub spi : List ℕ
  pub keys : List SaKey
  -- the fresh tree keys that it carries; none where they are not read
  pub fresh : List WrapKey

pub record MemberKeyBag : Type 0 where
  pub keys : List WrapKey

pub data Bag : Type 0 where
  group_keys : GroupKeyBag → Bag
  member_keys : MemberKeyBag → Bag

-- the place of a key bag's attributes, by the bag's first octet
abbrev pub place_of : Bool → ℕ → Place
place_of fresh p = cond (eqb p no_protocol) place.MemberBag (in_bag fresh p)

-- the Group Key Bag of protocol `p` with the SPI `x` and the attributes `l`
abbrev pub group_key_bag_of : Bool → ℕ → List ℕ → List Attribute → GroupKeyBag
group_key_bag_of fresh p x l = record { protocol = p; spi = x; keys = sa_keys (in_bag fresh p) l; fresh = fresh_keys (in_bag fresh p) l }

-- the key bag at the start of `s`, with the attributes `l`
abbrev pub bag_of : Bool → List ℕ → List Attribute → Bag
bag_of fresh s l =
    cond (eqb (oct s 0) no_protocol) (member_keys (record { keys = wrap_keys place.MemberBag l }))
    (group_keys (group_key_bag_of fresh (oct s 0) (head_spi s) l))

unfoldable pub bag : Bool → Reader Bag
bag fresh b s =
    opened b (head_fits s)
    (mapped (bag_of fresh s) (within (head_size s) (be16 s structure_length_at) (attributes (place_of fresh (oct s 0))) b s))

-- the key bags of a KD payload's body, to its end
abbrev pub bags : Bool → Reader (List Bag)
bags fresh b s = many (bag fresh) b s
