-- Where the attributes of the first Member Key Bag stand in a KD body whose layout is whole, and all facts of the body.
use Rattle.std.specs.Prelude.{ℕ, zero, suc, ◌+◌, List, Bool, cond, ◌&&◌, length, drop, leb, eqb}
use Rattle.ikev2_numbers.specs.Codes.{no_protocol}
use Rattle.octets.specs.Numbers.{oct}
use Rattle.octets.specs.Walk.{be16}
use Rattle.state_keys.specs.Limits.{Limits}
use Rattle.wire_policies.specs.Policy.{head_size}
use Rattle.wire_readers.specs.inner.Values.{nowhere}
use Rattle.wire_readers.specs.inner.Bags.{bags_in}
use Rattle.wire_readers.specs.declared.Stretch.{Stretch}
use Rattle.check_bagkeys.specs.inner.Facts.{bag_facts_of}
use Rattle.check_bagkeys.specs.declared.KdFacts.{KdFacts}

-- where the attributes of the first Member Key Bag stand among at most `n` bags, from octet `at` to the end of body `k`. A Member Key Bag
-- is "0, reserved, length 2, attributes" (document 01), and the length of a bag counts all its octets
unfoldable pub member_from : ℕ → ℕ → List ℕ → Stretch
member_from zero at k = nowhere
member_from (suc n) at k =
    let end = at + be16 (drop at k) 2 in
    let later = member_from n end k in
    cond (leb (length k) at) nowhere
    (cond (eqb (oct (drop at k) 0) no_protocol) (record { start = at + head_size (drop at k); end = end }) later)

-- the same in the whole body `k`; an empty stretch if it has no such bag
abbrev pub member_in : List ℕ → Stretch
member_in k = member_from (length k) 0 k

-- where the attributes of the first Member Key Bag stand, once the bag with first octet `first` is read: `here` if it is a Member Key Bag
-- and none is known, else `known`
abbrev pub first_member : ℕ → Stretch → Stretch → Stretch
first_member first here known = cond (eqb first no_protocol && eqb known.end 0) here known

-- THE FACTS OF KD BODY `k`; `fresh` says whether fresh keys are read in the Rekey SA's bag
abbrev pub kd_facts_of : Limits → Bool → List ℕ → KdFacts
kd_facts_of limits fresh k = record { bags = bag_facts_of limits (bags_in fresh k); member_bag = member_in k }
