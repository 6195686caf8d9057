-- The keys of all SAs that a frame announces: number 8 of their copies, number 9, or the SAs that enter.
use Rattle.std.specs.Prelude.{ℕ, ◌+◌, ◌≤◌, ◌≡◌, Bool, true, false, Result, Ok, Err, List, length, take}
use Rattle.state_keys.specs.Limits.{limits}
use Rattle.wire_attributes.specs.Tree.{WrapKey}
use Rattle.wire_policies.specs.Policy.{GroupSaPolicy}
use Rattle.wire_frames.specs.Frame.{Frame}
use Rattle.wire_readers.specs.inner.Policies.{policies_in}
use Rattle.wire_readers.specs.inner.Bags.{bags_in}
use Rattle.state_sa.specs.declared.entry.Sa.{Sa}
use Rattle.rules_refusals.specs.Contents.{policies_of, bags_of, announced}
use Rattle.rules_refusals.specs.Number4.{key_length_twice, lifetime_twice, several_rekey_policies}
use Rattle.rules_refusals.specs.Number5.{other_transforms}
use Rattle.rules_refusals.specs.Number6.{policy_unpaired}
use Rattle.rules_refusals.specs.Number7.{many_sa_keys}
use Rattle.rules_chains.specs.Chain.{In, Root, CopyOpens}
use Rattle.rules_chains.specs.Refusals.{CopiesConflict}
use Rattle.rules_outcome.specs.Roots.{copies_of, announced_as}
use Rattle.rules_outcome.specs.Holding.{rekey_copies}
use Rattle.rules_outcome.specs.After.{Enter}
use Rattle.unwrap_copies.specs.inner.Openers.{openers_of, OpenersAre}
use Rattle.unwrap_sas.specs.declared.joining.SasFault.{SasFault}
use Rattle.unwrap_sas.specs.declared.joining.SasFault.TheVariants.{KeyConflict, KeyMissing}
use Rattle.unwrap_sas.specs.declared.joining.Keyed.{Keyed}

-- as many SAs as a frame may announce: its ESP SAs and a Rekey SA
abbrev pub new_sas : ℕ
new_sas = limits.esp_policies + 1

-- the frame f has the GSA body g and the KD body k, and numbers 4 to 7 do not apply: no Key Length and no GSA_KEY_LIFETIME stands twice in
-- one place; the transforms are exactly those of document 01, so there is no AH policy; each policy has one bag; there are no more SAs than
-- a frame may announce, one Rekey policy at most, and no more copies in a bag than the limit. `reads`: fresh tree keys are read from the KD
-- body
pub record ChecksPassed (reads : Bool) (f : Frame) (g k : List ℕ) : Type 0 where
  pub policies : policies_of f ≡ policies_in g
  pub bags : bags_of f ≡ bags_in reads k
  pub lengths : key_length_twice f ≡ false
  pub lifetimes : lifetime_twice f ≡ false
  pub transforms : other_transforms f ≡ false
  pub paired : policy_unpaired f ≡ false
  pub room : length (announced f) ≤ new_sas
  pub rekeys : several_rekey_policies f ≡ false
  pub few-copies : many_sa_keys limits f ≡ false

-- the answer if number 8 holds of no SA: with `true` some SA has no copy that opens, with `false` each SA has its key
abbrev pub found_by : Bool → Result (Unit {0}) SasFault
found_by true = Err KeyMissing
found_by false = Ok tt

-- ---- of the policies l of the frame f
module _ (roots : List Root) (entries : List WrapKey) (size : ℕ) (f : Frame) (l : List GroupSaPolicy) where
  -- 8, of copies: "in number 8 they count as reached wrappings of that SA's key"
  pub record SomeConflict : Type 0 where
    pub sa : GroupSaPolicy
    pub stands : In sa l
    pub conflict : CopiesConflict roots entries size (announced_as f sa)

  -- 8 holds of the copies of none of them
  abbrev pub NoConflict : Type 0
  NoConflict = (a : GroupSaPolicy) → In a l → CopiesConflict roots entries size (announced_as f a) → ⊥

  -- 9: "some announced SA has no copy that opens"
  pub record SomeUnopened : Type 0 where
    pub sa : GroupSaPolicy
    pub stands : In sa l
    pub none : (x : List ℕ) → CopyOpens roots entries size (copies_of f sa) x → ⊥

  -- "each is judged only when the lower ones don't apply"; the lifetimes of the SAs start at `tick`
  abbrev pub KeysOf : ℕ → Result (Unit {0}) SasFault → List Sa → ℕ → Type 0
  KeysOf tick (Err KeyConflict) sas count = SomeConflict
  KeysOf tick (Err KeyMissing) sas count = NoConflict × SomeUnopened
  KeysOf tick (Ok u) sas count = NoConflict × Enter roots entries size tick f l (take count sas) × (count ≡ length l)

  abbrev pub KeysIn : ℕ → Keyed → Type 0
  KeysIn tick r = KeysOf tick r.found r.sas r.count

-- ---- of all policies that the frame announces: the first SAs of the answer are the new ones, one for each policy, in the frame's order;
-- with them come the KWK IDs of the copies of the Rekey SA's key that open
pub record KeyedBy (roots : List Root) (entries : List WrapKey) (size : ℕ) (f : Frame) (tick : ℕ) (r : Keyed) : Type 0 where
  pub keys : KeysIn roots entries size f (announced f) tick r
  pub openers : r.found ≡ Ok tt → OpenersAre roots entries size (rekey_copies f) (openers_of r.openers)
