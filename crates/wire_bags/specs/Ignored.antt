-- WHAT IS READ of a key bag, octet by octet. Document 01: "Flags, minor version and RESERVED octets are ignored."
use Rattle.std.specs.Prelude.{ℕ, List, Bool}
use Rattle.octets.specs.Ignored.{Mask, all_of, row_mask}
use Rattle.wire_policies.specs.Ignored.{reserved_second}
use Rattle.wire_bags.specs.Bag.{Bag, group_keys, member_keys}
use Rattle.wire_bags.specs.Grammar.{IsBag, is-group, is_member, Bags}

-- a Group Key Bag has no octet that is ignored; a Member Key Bag has "0, reserved, length 2, attributes"
abbrev pub bag_mask : (fresh : Bool) (o : List ℕ) (x : Bag) → IsBag fresh o x → List Mask
bag_mask fresh o (group_keys x) (is-group i) = all_of o
bag_mask fresh o (member_keys x) (is_member i) = reserved_second o

abbrev pub bags_mask : (fresh : Bool) {s : List ℕ} {l : List Bag} → Bags fresh s l → List Mask
bags_mask fresh r = row_mask (bag_mask fresh) r
