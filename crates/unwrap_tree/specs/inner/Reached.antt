-- The entries of a KD body, number 8 of them, the keys that they reach, and the links between them.
use Rattle.std.specs.Prelude.{ℕ, ◌≡◌, Bool, true, false, take}
use mathlib.Core.List.{List, flat_map}
use Rattle.wire_attributes.specs.Tree.{WrapKey}
use Rattle.wire_bags.specs.Bag.{Bag, MemberKeyBag}
use Rattle.rules_chains.specs.Chain.{Root}
use Rattle.rules_chains.specs.Refusals.{EntriesConflict}
use Rattle.state_keys.specs.Limits.{limits}
use Rattle.state_keys.specs.declared.kinds.WrappingKey.{WrappingKey}
use Rattle.state.specs.Held.{held_formed}
use Rattle.state.specs.declared.held.HeldKey.{HeldKey}
use Rattle.unwrap_lending.specs.inner.Lending.{named_keys}
use Rattle.unwrap_paths.specs.inner.Kept.{LinksFit, SearchKept}
use Rattle.unwrap_conflicts.specs.inner.Values.{Decides}
use Rattle.unwrap_copies.specs.inner.Known.{Agrees}
use Rattle.unwrap_tree.specs.declared.held.ReachedKeys.{ReachedKeys}
use Rattle.wire_readers.specs.inner.Bags.{bags_in}
use Rattle.rules_refusals.specs.Contents.{member_bag_of}

-- the WRAP_KEYs of these bags: they stand in Member Key Bags alone
abbrev pub wrap_keys_among : List Bag → List WrapKey
wrap_keys_among l = flat_map (λ (b : MemberKeyBag). b.keys) (flat_map member_bag_of l)

-- the WRAP_KEYs of the KD body k, where fresh tree keys are read (`fresh`) or not
abbrev pub wrap_keys_in : Bool → List ℕ → List WrapKey
wrap_keys_in fresh k = wrap_keys_among (bags_in fresh k)

module _ (roots : List Root) (entries : List WrapKey) (size : ℕ) where
  -- the answer r says whether number 8 holds of the entries. If it does not hold, r has the keys that are reached: the list is as a
  -- member's must be, and chains end on exactly key 0 (`zero`), the key that the list has for each Key ID of the entries, and those of
  -- `keys` that no entry carries. Then the path is read off the links of r. If number 8 holds, the list of r is empty.
  pub record TreeAnswers (zero : WrappingKey) (keys : List HeldKey) (r : ReachedKeys) : Type 0 where
    pub conflict : Decides r.conflict (EntriesConflict roots entries size)
    pub formed : held_formed limits r.held ≡ true
    pub agrees : r.conflict ≡ false →
        Agrees roots entries size zero (named_keys r.held (take r.links.count r.links.ids)) keys
    pub fit : LinksFit r.links
    pub kept : r.conflict ≡ false → SearchKept roots entries size r.links r.held
