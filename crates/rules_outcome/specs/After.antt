-- Document 01, "After acceptance"; the held list, by document 02, stands in Holding.
use Rattle.std.specs.Prelude.{ℕ, ◌≡◌, Bool, cond, ◌&&◌, ◌||◌, List, [], ◌∷◌, map, eqb}
use Rattle.octets.specs.Compare.{same}
use Rattle.lists.specs.Lists.{all, any, insert}
use Rattle.state_keys.specs.Limits.{Limits}
use Rattle.state_keys.specs.Kinds.{esp_of, rekey_of}
use Rattle.wire_attributes.specs.Tree.{WrapKey}
use Rattle.wire_policies.specs.Policy.{GroupSaPolicy, GroupWidePolicy}
use Rattle.wire_frames.specs.Frame.{Frame}
use Rattle.wire_frames.specs.declared.exchanges.LeastAfter.{LeastAfter}
use Rattle.wire_frames.specs.declared.exchanges.LeastAfter.TheVariants as leastAfter
use Rattle.state_sa.specs.Entry.{esp_protocol, rekey_protocol, sa_spi, sa_before, esp_sa, rekey_sa}
use Rattle.state_sa.specs.declared.entry.Lifetime.{Lifetime}
use Rattle.state_sa.specs.declared.entry.Lifetime.TheVariants.{Unlimited, Limited}
use Rattle.state_sa.specs.declared.entry.Sa.{Sa}
use Rattle.state_table.specs.Table.{table_of, retired_if}
use Rattle.state.specs.declared.State.{State}
use Rattle.state.specs.declared.least.Least.{Least}
use Rattle.state.specs.declared.least.Least.TheVariants.{Id}
use Rattle.state.specs.Least.{after_id}
use Rattle.rules_refusals.specs.Contents.{row_of, some, announced, group_wides, deleted_spis}
use Rattle.rules_refusals.specs.Fitness.{is_esp, is_rekey, sum, encryption_octets, key_wrap_octets}
use Rattle.rules_refusals.specs.Number2.{not_due_sas}
use Rattle.rules_chains.specs.Chain.{Root}
use Rattle.rules_chains.specs.Refusals.{KeyOf}
use Rattle.rules_outcome.specs.Roots.{roots_of, entries_of, wrapping_size, announced_as}
use Rattle.rules_outcome.specs.Holding.{new_rekey, HeldAfterwards}

-- "The delay is the frame's deactivation delay, 0 if it has none (house)": number 4 leaves one at most
unfoldable pub delay_of : Frame → ℕ
delay_of f = sum (λ (w : GroupWidePolicy). sum (λ (d : ℕ). d) w.deactivation_delays) (group_wides f)

-- "each ESP SPI named in D that was live retires, SPI 0 naming every ESP SA in the table (001 section 2.4.3)"
abbrev pub is_zero : List ℕ → Bool
is_zero x = all (λ (o : ℕ). eqb o 0) x

unfoldable pub named_in_delete : Frame → Sa → Bool
named_in_delete f s = eqb s.protocol esp_protocol && any (λ (x : List ℕ). is_zero x || same (sa_spi s) x) (deleted_spis f)

-- "A new Rekey SA turns the old one to retiring."
unfoldable pub replaced : Frame → Sa → Bool
replaced f s = new_rekey f && eqb s.protocol rekey_protocol

-- frame `f` retires SA `s`, provided that `s` is live: "retiring ones are passed over" (they keep their start and delay)
abbrev pub retires : Frame → Sa → Bool
retires f s = named_in_delete f s || replaced f s

-- what an SA that is not due becomes with the frame
abbrev pub old_sa : ℕ → Frame → Sa → Sa
old_sa now f = retired_if (retires f) now (delay_of f)

-- "First, SAs due at the tick go"
unfoldable pub old_sas : State → ℕ → Frame → List Sa
old_sas s now f = map (old_sa now f) (not_due_sas now s)

-- "its lifetime (GSA_KEY_LIFETIME, ..) and the tick of its start, or "no lifetime" if the attribute is missing" (document 02, T-07): the
-- tick is that of the frame that brings the SA; number 4 leaves one attribute at most
unfoldable pub lifetime_from : ℕ → List ℕ → Lifetime
lifetime_from now l = cond (some l) (Limited now (sum (λ (n : ℕ). n) l)) Unlimited

-- "The new SAs enter as live": the SA of policy `a` with its lifetime and its keying octets `x`, which the policy of a Rekey SA cuts in two
unfoldable pub sa_from : ℕ → GroupSaPolicy → List ℕ → Sa
sa_from now a x =
    cond (is_esp a) (esp_sa a.spi (esp_of x) (lifetime_from now a.key_lifetimes))
    (rekey_sa a.spi (rekey_of x (encryption_octets a) (key_wrap_octets a)) (lifetime_from now a.key_lifetimes))

unfoldable pub insert_all : List Sa → List Sa → List Sa
insert_all [] l = l
insert_all (a ∷ m) l = insert sa_before a (insert_all m l)

module _ (roots : List Root) (entries : List WrapKey) (size : ℕ) where
  -- "each of those SAs stands in the table .. with the octets that every such copy opens to"
  pub data Enter (now : ℕ) (f : Frame) : List GroupSaPolicy → List Sa → Type 0 where
    no-sa : Enter now f [] []
    one_more : {a : GroupSaPolicy} {l : List GroupSaPolicy} {m : List Sa} (x : List ℕ) → KeyOf roots entries size (announced_as f a) x →
        Enter now f l m → Enter now f (a ∷ l) (sa_from now a x ∷ m)

-- "With a new Rekey SA the least Message ID is its GSA_INITIAL_MESSAGE_ID, else 0; without one, a registration sets 0 and a rekey sets it
-- to its own plus 1, or none any more after 4,294,967,295." In GSA_INBAND_REKEY it "changes only if a new Rekey SA comes" (T-02).
unfoldable pub initial_message_id : Frame → ℕ
initial_message_id f = sum (λ (a : GroupSaPolicy). cond (is_rekey a) (sum (λ (i : ℕ). i) a.initial_message_ids) 0) (announced f)

-- the least Message ID after a frame without a new Rekey SA, by its exchange: `id` is the frame's Message ID, `before` the least one so far
abbrev pub least_by : LeastAfter → ℕ → Least → Least
least_by leastAfter.Zero id before = Id 0
least_by leastAfter.OwnPlusOne id before = after_id id
least_by leastAfter.Kept id before = before

unfoldable pub least_afterwards : State → Frame → Least
least_afterwards s f = cond (new_rekey f) (Id (initial_message_id f)) (least_by (row_of f).least f.header.message_id s.least)

-- THE MEMBER AFTER AN ACCEPTED FRAME
pub record After (limits : Limits) (s : State) (now : ℕ) (lent : List ℕ) (f : Frame) (next : State) : Type 0 where
  pub new : List Sa
  pub enter : Enter (roots_of limits s now lent f) (entries_of f) (wrapping_size limits s now lent f) now f (announced f) new
  pub table : next.table ≡ table_of limits (insert_all new (old_sas s now f))
  pub held : HeldAfterwards limits s now lent f next.held
  pub least : next.least ≡ least_afterwards s f
  -- the profile is "switched on for a member at creation" (document 02, T-11)
  pub profile : next.profile ≡ s.profile
