-- Where the entries of a frame stand. Document 02, T-11: fresh tree keys stand "in the Rekey SA's Group Key Bag". Inner.
use Rattle.std.specs.Prelude.{ℕ, ◌≤◌, ◌≡◌, Bool, true, false, Option, MatchOption, length}
use mathlib.Core.List.{List, [], ◌∷◌, ◌++◌, Memᴰ, flat_map}
use Rattle.octets.specs.Walk.{part}
use Rattle.lists.specs.Lists.{keep}
use Rattle.state_sa.specs.Entry.{rekey_protocol}
use Rattle.wire_attributes.specs.Tree.{WrapKey}
use Rattle.wire_attributes.specs.declared.tables.Place.TheVariants.{MemberBag}
use Rattle.wire_attributes.specs.declared.tables.Meaning.TheVariants as meaning
use Rattle.wire_policies.specs.Policy.{GroupSaPolicy}
use Rattle.wire_bags.specs.Bag.{GroupKeyBag}
use Rattle.wire_frames.specs.Frame.{Frame}
use Rattle.wire_readers.specs.declared.Stretch.{Stretch}
use Rattle.wire_readers.specs.inner.Policies.{policies_in}
use Rattle.wire_readers.specs.inner.Bags.{bags_in}
use Rattle.rules_refusals.specs.Contents.{group_sa_in, policies_of, bags_of, group_bags, wrap_keys_of, fresh_keys_of}
use Rattle.rules_refusals.specs.Fitness.{is_rekey}
use Rattle.rules_refusals.specs.Number4.{several_rekey_policies}
use Rattle.rules_refusals.specs.Number6.{policy_unpaired, bag_unpaired}
use Rattle.unwrap_tree.specs.inner.Entries.{HoldsEntries}
use Rattle.unwrap_tree.specs.declared.source.Source.{Source}

-- the Rekey policies of the GSA body g
abbrev pub rekeys_in : List ℕ → List GroupSaPolicy
rekeys_in g = keep is_rekey (flat_map group_sa_in (policies_in g))

-- the SPI of the first of them stands in the stretch r
pub record FirstRekey (g : List ℕ) (r : Stretch) : Type 0 where
  pub sa : GroupSaPolicy
  pub others : List GroupSaPolicy
  pub first : rekeys_in g ≡ sa ∷ others
  pub protocol-is : sa.protocol ≡ rekey_protocol
  pub spi-is : sa.spi ≡ part g r.start r.end
  pub order : r.start ≤ r.end
  pub inside : r.end ≤ length g

-- the same, or there is none
abbrev pub FindsRekey : List ℕ → Option Stretch → Type 0
FindsRekey g r = MatchOption r (rekeys_in g ≡ []) (FirstRekey g)

-- l are the entries of the KD body k, which stand where r says
abbrev pub EntriesOf : List ℕ → Option Source → List WrapKey → Type 0
EntriesOf k r l = MatchOption r (l ≡ []) (λ s. HoldsEntries s.meaning s.place k s.bag l)

-- the frame f has the GSA body g and the KD body k, from which fresh tree keys are read; these stand in bags of protocol 6 alone, policies
-- and bags are paired, and there is one Rekey policy at most
pub record FreshSource (f : Frame) (g k : List ℕ) : Type 0 where
  pub policies : policies_of f ≡ policies_in g
  pub bags : bags_of f ≡ bags_in true k
  pub placed : (b : GroupKeyBag) → Memᴰ b (group_bags f) → (w : WrapKey) → Memᴰ w b.fresh → b.protocol ≡ 6
  pub paired : policy_unpaired f ≡ false
  pub owned : bag_unpaired f ≡ false
  pub rekeys : several_rekey_policies f ≡ false

-- its fresh tree keys stand where r says
abbrev pub FreshStand : List ℕ → Frame → Option Source → Type 0
FreshStand k f r = EntriesOf k r (fresh_keys_of f)

-- what is known of the entries of the frame f: a registration has WRAP_KEYs in its Member Key Bag `bag` and no fresh tree keys; another
-- frame has no WRAP_KEY
pub record Sourced (registers reads : Bool) (f : Frame) (g k : List ℕ) (bag : Stretch) : Type 0 where
  pub apart : registers ≡ true → reads ≡ false
  pub member : registers ≡ true → HoldsEntries meaning.WrapKey MemberBag k bag (wrap_keys_of f)
  pub none : registers ≡ false → wrap_keys_of f ≡ []
  pub unread : reads ≡ false → fresh_keys_of f ≡ []
  pub fresh : reads ≡ true → FreshSource f g k

-- its entries stand where r says
abbrev pub EntriesStand : List ℕ → Frame → Option Source → Type 0
EntriesStand k f r = EntriesOf k r (wrap_keys_of f ++ fresh_keys_of f)
