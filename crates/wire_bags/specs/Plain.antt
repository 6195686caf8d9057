-- A key bag as it is read where fresh keys are skipped (document 02, T-11): "Elsewhere, and with the profile off, the attribute is
-- skipped."
use Rattle.std.specs.Prelude.{[]}
use Rattle.wire_bags.specs.Bag.{GroupKeyBag, Bag, group_keys, member_keys}

abbrev pub plain_group : GroupKeyBag → GroupKeyBag
plain_group x = record { protocol = x.protocol; spi = x.spi; keys = x.keys; fresh = [] }

abbrev pub plain_bag : Bag → Bag
plain_bag (group_keys x) = group_keys (plain_group x)
plain_bag (member_keys x) = member_keys x
