-- Number 5 is given exactly when: "an AH policy or bag, a policy whose transforms aren't exactly those below, Delete of another protocol
-- than ESP or with count 0, a lent default key not of 16, 24 or 32 octets in a registration". In GSA_INBAND_REKEY it "judges the lent
-- key's size as in a registration" (document 02, T-02).
use Rattle.std.specs.Prelude.{ℕ, List, [], ◌∷◌, Bool, not, ◌&&◌, length, eqb}
use Rattle.lists.specs.Lists.{any}
use Rattle.state_keys.specs.Algorithms.{is_wrapping_size}
use Rattle.wire_policies.specs.Policy.{GroupSaPolicy}
use Rattle.wire_bags.specs.Bag.{GroupKeyBag}
use Rattle.wire_frames.specs.Delete.{Delete}
use Rattle.wire_frames.specs.Frame.{Frame}
use Rattle.rules_refusals.specs.Contents.{row_of, announced, group_bags, deletes_of}
use Rattle.state_sa.specs.Entry.{esp_protocol}
use Rattle.rules_refusals.specs.Fitness.{ah, transforms_fit}

-- "an AH policy or bag". An AH policy is also one of other transforms, since no transforms are fit for AH (`transforms_fit`)
unfoldable pub ah_policy : Frame → Bool
ah_policy f = any (λ (p : GroupSaPolicy). eqb p.protocol ah) (announced f)

unfoldable pub ah_bag : Frame → Bool
ah_bag f = any (λ (b : GroupKeyBag). eqb b.protocol ah) (group_bags f)

-- "a policy whose transforms aren't exactly those below"
unfoldable pub other_transforms : Frame → Bool
other_transforms f = any (λ (p : GroupSaPolicy). not (transforms_fit (row_of f).authentication p)) (announced f)

-- "Delete of another protocol than ESP or with count 0"
unfoldable pub delete_of_other : Frame → Bool
delete_of_other f = any (λ (d : Delete). not (eqb d.protocol esp_protocol)) (deletes_of f)

unfoldable pub delete_of_none : Frame → Bool
delete_of_none f = any (λ (d : Delete). eqb (length d.spis) 0) (deletes_of f)

-- "a lent default key not of 16, 24 or 32 octets in a registration", in GSA_INBAND_REKEY too (T-02): the sizes of the key wrap
-- algorithms
unfoldable pub lent_key_size : List ℕ → Frame → Bool
lent_key_size lent f = (row_of f).judges_lent_key && not (is_wrapping_size (length lent))

unfoldable pub number5_of_frame : List ℕ → Frame → List Bool
number5_of_frame lent f =
    ah_policy f ∷ ah_bag f ∷ other_transforms f ∷ delete_of_other f ∷ delete_of_none f ∷ lent_key_size lent f ∷ []
