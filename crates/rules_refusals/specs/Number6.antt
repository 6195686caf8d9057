-- Number 6 is given exactly when: "policies and Group Key Bags not paired one to one by protocol and SPI; one protocol and SPI twice, or
-- already in the table (SAs due at the tick not counted); SA_KEY count not 1 (for a Rekey SA in a rekey: 0); SA_KEY with Key ID not 0; ESP
-- SA_KEY with KWK ID not 0; WRAP_KEY with Key ID 0"; and, by document 02, T-09, when a WRAP_KEY has a Key ID that equals its KWK ID.
-- In GSA_INBAND_REKEY "a Rekey SA has exactly one SA_KEY" (document 02, T-02).
use Rattle.std.specs.Prelude.{ℕ, List, [], ◌∷◌, Bool, not, cond, ◌&&◌, length, ltb, eqb}
use Rattle.octets.specs.Compare.{same}
use Rattle.lists.specs.Lists.{any, count}
use Rattle.state_sa.specs.Entry.{named, esp_protocol, rekey_protocol}
use Rattle.state.specs.declared.State.{State}
use Rattle.wire_attributes.specs.Tree.{SaKey, WrapKey}
use Rattle.wire_policies.specs.Policy.{GroupSaPolicy}
use Rattle.wire_bags.specs.Bag.{GroupKeyBag}
use Rattle.wire_frames.specs.Frame.{Frame}
use Rattle.wire_frames.specs.declared.exchanges.Exchange.{Exchange}
use Rattle.rules_refusals.specs.Contents.{row_of, announced, group_bags, wrap_keys_of, fresh_keys_of}
use Rattle.rules_refusals.specs.Number2.{not_due_sas}

-- the policy, or the Group Key Bag, has protocol `p` and SPI `x`
abbrev pub policy_named : ℕ → List ℕ → GroupSaPolicy → Bool
policy_named p x a = eqb a.protocol p && same a.spi x

abbrev pub bag_named : ℕ → List ℕ → GroupKeyBag → Bool
bag_named p x b = eqb b.protocol p && same b.spi x

-- how many policies, and how many Group Key Bags, have protocol `p` and SPI `x`
abbrev pub policies_named : Frame → ℕ → List ℕ → ℕ
policies_named f p x = count (policy_named p x) (announced f)

abbrev pub bags_named : Frame → ℕ → List ℕ → ℕ
bags_named f p x = count (bag_named p x) (group_bags f)

-- "policies and Group Key Bags not paired one to one by protocol and SPI": a policy without exactly one bag, or a bag without exactly one
-- policy
unfoldable pub policy_unpaired : Frame → Bool
policy_unpaired f = any (λ (a : GroupSaPolicy). not (eqb (bags_named f a.protocol a.spi) 1)) (announced f)

unfoldable pub bag_unpaired : Frame → Bool
bag_unpaired f = any (λ (b : GroupKeyBag). not (eqb (policies_named f b.protocol b.spi) 1)) (group_bags f)

-- "one protocol and SPI twice". Where a name stands twice, policies and bags are not paired one to one either, so these two clauses follow
-- from the two above; document 01 names them
unfoldable pub policy_twice : Frame → Bool
policy_twice f = any (λ (a : GroupSaPolicy). ltb 1 (policies_named f a.protocol a.spi)) (announced f)

unfoldable pub bag_twice : Frame → Bool
bag_twice f = any (λ (b : GroupKeyBag). ltb 1 (bags_named f b.protocol b.spi)) (group_bags f)

-- "or already in the table (SAs due at the tick not counted)"
unfoldable pub already_in_table : State → ℕ → Frame → Bool
already_in_table s now f = any (λ (a : GroupSaPolicy). any (named a.protocol a.spi) (not_due_sas now s)) (announced f)

-- "SA_KEY count not 1 (for a Rekey SA in a rekey: 0)", where the rekey is a GSA_REKEY
unfoldable pub other_sa_key_count : Exchange → GroupKeyBag → Bool
other_sa_key_count x b =
    cond (x.allows_copies && eqb b.protocol rekey_protocol) (eqb (length b.keys) 0) (not (eqb (length b.keys) 1))

unfoldable pub sa_key_count : Frame → Bool
sa_key_count f = any (other_sa_key_count (row_of f)) (group_bags f)

-- "SA_KEY with Key ID not 0"
abbrev pub has_key_id : SaKey → Bool
has_key_id k = not (eqb k.key_id 0)

unfoldable pub sa_key_id : Frame → Bool
sa_key_id f = any (λ (b : GroupKeyBag). any has_key_id b.keys) (group_bags f)

-- "ESP SA_KEY with KWK ID not 0"
abbrev pub has_kwk_id : SaKey → Bool
has_kwk_id k = not (eqb k.kwk_id 0)

unfoldable pub esp_kwk_id : Frame → Bool
esp_kwk_id f = any (λ (b : GroupKeyBag). eqb b.protocol esp_protocol && any has_kwk_id b.keys) (group_bags f)

-- "WRAP_KEY with Key ID 0"
unfoldable pub wrap_key_id : Frame → Bool
wrap_key_id f = any (λ (k : WrapKey). eqb k.key_id 0) (wrap_keys_of f)

-- document 02, T-09: "an entry whose Key ID equals its KWK ID. Any such WRAP_KEY, reached or not, now gives number 6 in a registration." It
-- counts as it stands, whether or not it opens. As for Key ID 0, the exchange is not tested: in any other exchange a Member Key Bag is
-- number 4
abbrev pub under_itself : WrapKey → Bool
under_itself k = eqb k.key_id k.kwk_id

unfoldable pub wraps_itself : Frame → Bool
wraps_itself f = any under_itself (wrap_keys_of f)

-- document 02, T-11, of fresh tree keys: "Key ID 0 and a self-wrapping give 6". They count as they stand, whether or not they open
unfoldable pub fresh_key_id : Frame → Bool
fresh_key_id f = any (λ (k : WrapKey). eqb k.key_id 0) (fresh_keys_of f)

unfoldable pub fresh_wraps_itself : Frame → Bool
fresh_wraps_itself f = any under_itself (fresh_keys_of f)

unfoldable pub number6_of_frame : Frame → List Bool
number6_of_frame f =
    policy_unpaired f ∷ bag_unpaired f ∷ policy_twice f ∷ bag_twice f ∷ sa_key_count f ∷ sa_key_id f ∷ esp_kwk_id f ∷ wrap_key_id f ∷
    wraps_itself f ∷ fresh_key_id f ∷ fresh_wraps_itself f ∷ []

unfoldable pub number6_of_member : State → ℕ → Frame → List Bool
number6_of_member s now f = already_in_table s now f ∷ []
