-- What a frame gives to chains: the keys to start with, the entries, the size of a wrapping key, and the announced SAs with the copies of
-- their keys.
use Rattle.std.specs.Prelude.{ℕ, ◌+◌, Bool, cond, not, eqb, length}
use mathlib.Core.List.{List, [], ◌∷◌, ◌++◌, map, flat_map}
use Rattle.wire_attributes.specs.Tree.{SaKey, WrapKey}
use Rattle.wire_policies.specs.Policy.{GroupSaPolicy}
use Rattle.wire_bags.specs.Bag.{GroupKeyBag}
use Rattle.wire_frames.specs.Frame.{Frame}
use Rattle.wire_frames.specs.declared.exchanges.KeyZero.{KeyZero}
use Rattle.wire_frames.specs.declared.exchanges.KeyZero.TheVariants as zero
use Rattle.lists.specs.Lists.{any, keep}
use Rattle.state_keys.specs.Limits.{Limits}
use Rattle.state_keys.specs.Kinds.{value_of}
use Rattle.state_table.specs.Table.{swept, default_key}
use Rattle.state.specs.declared.State.{State}
use Rattle.state.specs.declared.held.HeldKey.{HeldKey}
use Rattle.state.specs.Held.{keys_of}
use Rattle.rules_refusals.specs.Contents.{row_of, announced, group_bags, wrap_keys_of, fresh_keys_of}
use Rattle.rules_refusals.specs.Fitness.{encryption_octets, key_wrap_octets}
use Rattle.rules_refusals.specs.Number6.{bag_named}
use Rattle.rules_chains.specs.Chain.{Root}
use Rattle.rules_chains.specs.Refusals.{Announced}
use Rattle.state_keys.specs.Kinds.{key_or_blank}

-- "Registration frames .. come with a lent default key; GSA_REKEY frames use the live Rekey SA's own, and the lent one is not read": that
-- SA's default key, of the table as it stands at the tick. GSA_INBAND_REKEY "comes with a lent default key of the member's IKE SA" (T-02)
abbrev pub own_key_of : Limits → State → ℕ → List ℕ
own_key_of limits s now = value_of (key_or_blank (default_key limits (swept limits now s.table)))

abbrev pub key_zero_by : KeyZero → List ℕ → List ℕ → List ℕ
key_zero_by zero.Lent lent own = lent
key_zero_by zero.RekeySa lent own = own

-- "KWK ID 0 is the default key"
unfoldable pub key_zero_value : Limits → State → ℕ → List ℕ → Frame → List ℕ
key_zero_value limits s now lent f = key_zero_by (row_of f).zero lent (own_key_of limits s now)

-- "Held keys take the place of reached ones in a rekey, with the Rekey SA's default key as key 0"; they "are for GSA_REKEY only" (T-02)
abbrev pub held_root : HeldKey → Root
held_root k = record { id = k.id; value = value_of k.key }

-- document 02, T-11: "A KWK ID names the fresh key if the frame carries any entry for that ID, otherwise the held key": these entries carry
-- the Key ID of held key `k`, whether or not they open
abbrev pub carried : List WrapKey → HeldKey → Bool
carried l k = any (λ (e : WrapKey). eqb e.key_id k.id) l

-- the held keys that these entries do not carry
abbrev pub those_not_carried : List WrapKey → List HeldKey → List HeldKey
those_not_carried l h = keep (λ (k : HeldKey). not (carried l k)) h

-- "Chains now start from the default key or a held key not carried anew" (T-11)
unfoldable pub roots_of : Limits → State → ℕ → List ℕ → Frame → List Root
roots_of limits s now lent f =
    record { id = 0; value = key_zero_value limits s now lent f }
    ∷ cond (row_of f).names_held_keys (map held_root (those_not_carried (fresh_keys_of f) (keys_of s.held))) []

-- "goes on by WRAP_KEY entries", or by the fresh tree keys of a rekey (T-11). Where the layout reads fresh keys, number 4 leaves no
-- WRAP_KEY
abbrev pub entries_of : Frame → List WrapKey
entries_of f = wrap_keys_of f ++ fresh_keys_of f

-- "a wrapping key [needs] the size of the lent default key"; "A fresh key has the size of the live Rekey SA's default key" (T-11)
unfoldable pub wrapping_size : Limits → State → ℕ → List ℕ → Frame → ℕ
wrapping_size limits s now lent f = length (key_zero_value limits s now lent f)

-- "The copies of an announced key are its SA_KEY attributes": those of the Group Key Bag with its protocol and SPI
unfoldable pub copies_of : Frame → GroupSaPolicy → List SaKey
copies_of f a = flat_map (λ (b : GroupKeyBag). b.keys) (keep (bag_named a.protocol a.spi) (group_bags f))

-- "An ESP SA needs the first number, a Rekey SA the sum of both"
unfoldable pub need_of : GroupSaPolicy → ℕ
need_of a = encryption_octets a + key_wrap_octets a

abbrev pub announced_as : Frame → GroupSaPolicy → Announced
announced_as f a = record { copies = copies_of f a; need = need_of a }

-- "The SAs a frame announces are those of its Group SA policies."
unfoldable pub announced_keys : Frame → List Announced
announced_keys f = map (announced_as f) (announced f)
