-- Samples computed on the definitions: key bags by their octets. Attribute 1 is another key in each bag.
use Prim.Native.Nat.{ℕ}
use mathlib.Core.Path.{refl}
use mathlib.Core.List.{List, [], ◌∷◌, ◌++◌}
use mathlib.Core.Bool.{false}
use Rattle.octets.specs.Numbers.{number}
use Rattle.octets.specs.Walk.{whole, broken, chain, chain_up_to, many}
use Rattle.wire_attributes.specs.Tree.{SaKey, WrapKey, values_of}
use Rattle.wire_attributes.specs.Layout.{attribute}
use Rattle.wire_bags.specs.Bag.{Bag, group_keys, member_keys, bag, bags}
use Rattle.wire_frames.proofs.SamplesOfPolicies.{Sample, sample, Read}

-- a wrapped key: Key ID 5, KWK ID 65545, 16 octets
abbrev key : List ℕ
key = 1 ∷ 2 ∷ 3 ∷ 4 ∷ 5 ∷ 6 ∷ 7 ∷ 8 ∷ 1 ∷ 2 ∷ 3 ∷ 4 ∷ 5 ∷ 6 ∷ 7 ∷ 8 ∷ []

abbrev wrapped : List ℕ
wrapped = 0 ∷ 0 ∷ 0 ∷ 5 ∷ 0 ∷ 1 ∷ 0 ∷ 9 ∷ key

abbrev attribute1 : List ℕ
attribute1 = (0 ∷ 1 ∷ 0 ∷ 24 ∷ []) ++ wrapped

abbrev is_group : ℕ → List ℕ → List SaKey → Bag
is_group p x l = group_keys (record { protocol = p; spi = x; keys = l; fresh = [] })

abbrev is_member : List WrapKey → Bag
is_member l = member_keys (record { keys = l })

abbrev sa_key : SaKey
sa_key = record { key_id = 5; kwk_id = 65545; wrapped = key }

abbrev wrap_key : WrapKey
wrap_key = record { key_id = 5; kwk_id = 65545; wrapped = key }

abbrev bag_samples : List (Sample (List Bag))
bag_samples =
    sample [] (whole [] []) ∷
    -- a Member bag, an empty one too; AUTH_KEY 2 and GM_SENDER_ID 3 are skipped in any format
    sample (0 ∷ 9 ∷ 0 ∷ 4 ∷ []) (whole (is_member [] ∷ []) []) ∷
    sample ((0 ∷ 9 ∷ 0 ∷ 32 ∷ []) ++ attribute1) (whole (is_member (wrap_key ∷ []) ∷ []) []) ∷
    sample ((0 ∷ 9 ∷ 0 ∷ 40 ∷ 128 ∷ 2 ∷ 0 ∷ 0 ∷ []) ++ (attribute1 ++ (0 ∷ 3 ∷ 0 ∷ 0 ∷ []))) (whole (is_member (wrap_key ∷ []) ∷ []) []) ∷
    -- Group Key Bags of ESP, AH and the Rekey SA, one after the other
    sample
    ((3 ∷ 4 ∷ 0 ∷ 36 ∷ 1 ∷ 2 ∷ 3 ∷ 4 ∷ []) ++ (attribute1 ++ ((2 ∷ 4 ∷ 0 ∷ 36 ∷ 1 ∷ 2 ∷ 3 ∷ 4 ∷ []) ++ (attribute1 ++
    ((6 ∷ 16 ∷ 0 ∷ 76 ∷ []) ++ (key ++ (attribute1 ++ attribute1)))))))
    (whole
    (is_group 3 (1 ∷ 2 ∷ 3 ∷ 4 ∷ []) (sa_key ∷ []) ∷ is_group 2 (1 ∷ 2 ∷ 3 ∷ 4 ∷ []) (sa_key ∷ []) ∷
    is_group 6 key (sa_key ∷ sa_key ∷ []) ∷ []) []) ∷
    sample (3 ∷ 4 ∷ 0 ∷ 8 ∷ 1 ∷ 2 ∷ 3 ∷ 4 ∷ []) (whole (is_group 3 (1 ∷ 2 ∷ 3 ∷ 4 ∷ []) [] ∷ []) []) ∷
    -- SA_KEY and WRAP_KEY as TV, or of a wrong size, break at their own offset, in an AH bag too
    sample (2 ∷ 4 ∷ 0 ∷ 12 ∷ 1 ∷ 2 ∷ 3 ∷ 4 ∷ 128 ∷ 1 ∷ 0 ∷ 0 ∷ []) (broken 108) ∷
    sample (3 ∷ 4 ∷ 0 ∷ 12 ∷ 1 ∷ 2 ∷ 3 ∷ 4 ∷ 128 ∷ 1 ∷ 0 ∷ 0 ∷ []) (broken 108) ∷
    sample ((6 ∷ 16 ∷ 0 ∷ 24 ∷ []) ++ (key ++ (128 ∷ 1 ∷ 0 ∷ 0 ∷ []))) (broken 120) ∷
    sample (0 ∷ 0 ∷ 0 ∷ 8 ∷ 128 ∷ 1 ∷ 0 ∷ 0 ∷ []) (broken 104) ∷
    sample ((0 ∷ 0 ∷ 0 ∷ 24 ∷ 0 ∷ 1 ∷ 0 ∷ 16 ∷ []) ++ key) (broken 104) ∷
    sample ((0 ∷ 0 ∷ 0 ∷ 33 ∷ 0 ∷ 1 ∷ 0 ∷ 25 ∷ []) ++ (wrapped ++ (0 ∷ []))) (broken 104) ∷
    -- an unknown first octet, the SPI size of another protocol, a length under the head's
    sample (0 ∷ 9 ∷ 0 ∷ 4 ∷ 1 ∷ 0 ∷ 0 ∷ 4 ∷ []) (broken 104) ∷
    sample (3 ∷ 16 ∷ 0 ∷ 8 ∷ 1 ∷ 2 ∷ 3 ∷ 4 ∷ []) (broken 100) ∷
    sample ((6 ∷ 4 ∷ 0 ∷ 20 ∷ []) ++ key) (broken 100) ∷
    sample (3 ∷ 4 ∷ 0 ∷ 7 ∷ 1 ∷ 2 ∷ 3 ∷ 4 ∷ []) (broken 100) ∷
    []

bags-read : Read (bags false) bag_samples
unfolding bag attribute many chain chain_up_to number values_of
bags-read = refl
