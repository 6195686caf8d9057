-- A frame that numbers 2 to 7 let pass, and what its keys come to.
use Rattle.std.specs.Prelude.{ℕ, ◌≤◌, ◌≡◌, Bool, true, false, ◌&&◌, Result, Ok, Err}
use mathlib.Core.List.{List, [], Memᴰ}
use Rattle.octets.specs.Walk.{whole}
use Rattle.state_keys.specs.Limits.{limits}
use Rattle.state_keys.specs.Algorithms.{is_wrapping_size}
use Rattle.state_keys.specs.declared.kinds.WrappingKey.{WrappingKey}
use Rattle.wire_attributes.specs.Tree.{WrapKey}
use Rattle.wire_policies.specs.Policy.{GroupSaPolicy}
use Rattle.wire_frames.specs.Frame.{Frame, frame}
use Rattle.wire_frames.specs.declared.exchanges.Exchange.{Exchange}
use Rattle.wire_frames.specs.declared.exchanges.KeyZero.TheVariants as keyZero
use Rattle.state_table.specs.Table.{default_key}
use Rattle.state_table.specs.declared.Table.{Table}
use Rattle.state.specs.declared.State.{State}
use Rattle.state.specs.declared.held.Held.{Held}
use Rattle.wire_bags.specs.Bag.{GroupKeyBag, bags}
use Rattle.wire_readers.specs.inner.Values.{is_whole}
use Rattle.wire_readers.specs.inner.Policies.{policies_in}
use Rattle.wire_readers.specs.inner.Bags.{bags_in}
use Rattle.wire_attributes.specs.declared.tables.Place.TheVariants.{MemberBag}
use Rattle.wire_attributes.specs.declared.tables.Meaning.TheVariants as meaning
use Rattle.wire_readers.specs.declared.Stretch.{Stretch}
use Rattle.rules_refusals.specs.Contents.{row_of, policies_of, bags_of, group_bags, announced, wrap_keys_of, fresh_keys_of}
use Rattle.rules_refusals.specs.Refusals.{refusal}
use Rattle.rules_chains.specs.Chain.{In, Root, CopyOpens}
use Rattle.rules_outcome.specs.Roots.{copies_of}
use Rattle.rules_outcome.specs.Holding.{HeldAfterwards, OverHeldOf}
use Rattle.rules_outcome.specs.Outcome.{Judged}
use Rattle.check_judging.specs.inner.Facts.{frame_facts_of}
use Rattle.check_judging.specs.inner.Verdicts.{number_of_refusal}
use Rattle.check_judging.specs.declared.facts.Facts.{Facts}
use Rattle.check_judging.specs.declared.numbers.Refusal.{Refusal}
use Rattle.unwrap_tree.specs.inner.Entries.{HoldsEntries}
use Rattle.state_keys.specs.Kinds.{key_or_blank}

-- s are the octets of the frame f, none of numbers 2 to 7 applies to it, and x are its facts
pub record Passed (m : State) (now : ℕ) (lent s : List ℕ) (x : Facts) (f : Frame) : Type 0 where
  pub whole_is : frame m.profile s ≡ whole f []
  pub clauses : refusal limits m now lent f ≡ 0
  pub facts : x ≡ frame_facts_of m.profile (row_of f) s

-- a rekey over the Rekey SA: its exchange has the live Rekey SA's default key as key 0
abbrev pub RekeysOver : Frame → Type 0
RekeysOver f = (row_of f).zero ≡ keyZero.RekeySa

-- fresh tree keys are read in a frame of the exchange with the row e
abbrev pub reads_by : State → Exchange → Bool
reads_by m e = m.profile && e.reads_fresh_keys

-- none of numbers 2 to 7 applies to the frame f, and its exchange has the row e. Its policies are those of the GSA body g, its bags are
-- those of the KD body k, and its WRAP_KEYs stand in the stretch `bag` of k. It has no fresh tree keys where they are not read, and
-- none in a bag of another protocol than 6
pub record Bagged (e : Exchange) (m : State) (now : ℕ) (lent g k : List ℕ) (bag : Stretch) (f : Frame) : Type 0 where
  pub clauses : refusal limits m now lent f ≡ 0
  pub row : row_of f ≡ e
  pub laid : is_whole (bags (reads_by m e) 0 k) ≡ true
  pub policies : policies_of f ≡ policies_in g
  pub bags : bags_of f ≡ bags_in (reads_by m e) k
  pub unread : reads_by m e ≡ false → fresh_keys_of f ≡ []
  pub placed : (b : GroupKeyBag) → Memᴰ b (group_bags f) → (w : WrapKey) → Memᴰ w b.fresh → b.protocol ≡ 6
  pub entries : HoldsEntries meaning.WrapKey MemberBag k bag (wrap_keys_of f)

-- such a frame, which has the octets s and the facts x
pub record Bodied (m : State) (now : ℕ) (lent s : List ℕ) (x : Facts) (g k : List ℕ) (f : Frame) : Type 0 where
  pub passed : Passed m now lent s x f
  pub bagged : Bagged (row_of f) m now lent g k x.member_bag f

-- what is said of the held list after acceptance: the list that the frame leaves, within its limit, or that it is over that (`over`)
pub record HeldTold (m : State) (now : ℕ) (lent : List ℕ) (f : Frame) (over : Bool) (held : Held) : Type 0 where
  pub kept : over ≡ false → HeldAfterwards limits m now lent f held
  pub few : over ≡ false → held.count ≤ limits.held_keys
  pub beyond : over ≡ true → OverHeldOf limits m now lent f

-- each SA that the frame f announces has a copy that opens
abbrev pub EachHasCopy : List Root → List WrapKey → ℕ → Frame → Type 0
EachHasCopy roots entries size f = (a : GroupSaPolicy) → In a (announced f) → (x : List ℕ) × CopyOpens roots entries size (copies_of f a) x

-- r is the default key of the live Rekey SA of the table t, and has a size that a wrapping key can have
pub record IsDefaultKey (t : Table) (r : WrappingKey) : Type 0 where
  pub is : r ≡ key_or_blank (default_key limits t)
  pub fits : is_wrapping_size r.count ≡ true

-- the outcome of the frame f: the state after acceptance, or the refusal with the number that is judged
abbrev pub Decided : State → ℕ → List ℕ → Frame → Result State Refusal → Type 0
Decided m now lent f (Ok next) = Judged limits m now lent f 0 next
Decided m now lent f (Err r) = Judged limits m now lent f (number_of_refusal r) m
