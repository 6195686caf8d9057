-- Where the attributes of the Group Key Bag with a protocol and SPI stand in a KD body.
use Rattle.std.specs.Prelude.{ℕ, zero, suc, ◌+◌, cond, List, length, drop, leb}
use Rattle.ikev2_numbers.specs.Codes.{structure_length_at}
use Rattle.octets.specs.Walk.{be16}
use Rattle.lists.specs.Lists.{any}
use Rattle.wire_policies.specs.Policy.{head_size}
use Rattle.wire_readers.specs.declared.Stretch.{Stretch}
use Rattle.wire_readers.specs.inner.Values.{nowhere}
use Rattle.check_pairing.specs.inner.Names.{name_at, is_named}

-- the first bag with protocol `p` and SPI `x` among at most `n` bags, from octet `at` to the end of body `k`. Octets 2 and 3 of a bag count
-- all its octets, and its attributes begin after its head
unfoldable pub bag_from : ℕ → ℕ → List ℕ → ℕ → List ℕ → Stretch
bag_from zero p x at k = nowhere
bag_from (suc n) p x at k =
    let end = at + be16 (drop at k) structure_length_at in
    let later = bag_from n p x end k in
    cond (leb (length k) at) nowhere
    (cond (any (is_named p x) (name_at (drop at k))) (record { start = at + head_size (drop at k); end = end }) later)

abbrev pub bag_stretch : ℕ → List ℕ → List ℕ → Stretch
bag_stretch p x k = bag_from (length k) p x 0 k
