-- What document 01 says of the rest of the member after an accepted frame, by cases: the least Message ID, the delay, the old SAs.
use Rattle.std.specs.Prelude.{ℕ, ◌+◌, ◌≤◌, ◌<◌, ◌≡◌, false, ◌⊎◌, [], ◌∷◌}
use Rattle.ikev2_numbers.specs.Codes.{gsa_rekey, protocol_esp, protocol_gike_update}
use Rattle.wire_policies.specs.Policy.{GroupSaPolicy, GroupWidePolicy}
use Rattle.wire_frames.specs.Frame.{Frame}
use Rattle.state_sa.specs.Entry.{sa_spi, due, with_condition}
use Rattle.state_sa.specs.declared.entry.Condition.TheVariants.{Live, Retiring}
use Rattle.state_sa.specs.declared.entry.Sa.{Sa}
use Rattle.state_table.specs.Table.{sas_of}
use Rattle.state.specs.declared.State.{State}
use Rattle.state.specs.declared.least.Least.{Least}
use Rattle.state.specs.declared.least.Least.TheVariants.{Id, NoneAnyMore}
use Rattle.rules_refusals.specs.Contents.{announced, group_wides, deleted_spis}
use Rattle.rules_chains.specs.Chain.{In}
use Rattle.rules_outcome.specs.After.{old_sa}
use Rattle.rules_outcome.specs.NamedKey.{Registration, Inband}

module _ (f : Frame) where
  -- "a new Rekey SA": policy `p` of the frame announces it
  pub record NewRekey (p : GroupSaPolicy) : Type 0 where
    pub stands : In p (announced f)
    pub is-rekey : p.protocol ≡ protocol_gike_update

  abbrev pub NoNewRekey : Type 0
  NoNewRekey = (p : GroupSaPolicy) → NewRekey p → ⊥

  -- "With a new Rekey SA the least Message ID is its GSA_INITIAL_MESSAGE_ID, else 0; without one, a registration sets 0 and a rekey sets it
  -- to its own plus 1, or "none any more" after 4,294,967,295." In GSA_INBAND_REKEY "the least Message ID changes only if a new Rekey SA
  -- comes" (T-02): it stays `before`
  pub data LeastAs (before : Least) : Least → Type 0 where
    its-initial-id : (p : GroupSaPolicy) → NewRekey p → (i : ℕ) → p.initial_message_ids ≡ i ∷ [] → LeastAs before (Id i)
    else-0 : (p : GroupSaPolicy) → NewRekey p → p.initial_message_ids ≡ [] → LeastAs before (Id 0)
    of-registration : NoNewRekey → Registration f → LeastAs before (Id 0)
    own-plus-1 : NoNewRekey → f.header.exchange ≡ gsa_rekey → f.header.message_id < 4294967295 →
        LeastAs before (Id (f.header.message_id + 1))
    none-any-more : NoNewRekey → f.header.exchange ≡ gsa_rekey → 4294967295 ≤ f.header.message_id → LeastAs before NoneAnyMore
    as_before : NoNewRekey → Inband f → LeastAs before before

  -- "The delay is the frame's deactivation delay, 0 if it has none (house)."
  pub data DelayAs : ℕ → Type 0 where
    given : (w : GroupWidePolicy) → In w (group_wides f) → (d : ℕ) → w.deactivation_delays ≡ d ∷ [] → DelayAs d
    none-in-it : (w : GroupWidePolicy) → In w (group_wides f) → w.deactivation_delays ≡ [] → DelayAs 0
    no-group-wide : ((w : GroupWidePolicy) → In w (group_wides f) → ⊥) → DelayAs 0

  -- "each ESP SPI named in D .., SPI 0 naming every ESP SA in the table (001 section 2.4.3)"; "A new Rekey SA turns the old one to
  -- retiring."
  pub data EndsSa (a : Sa) : Type 0 where
    by-its-spi : a.protocol ≡ protocol_esp → In (sa_spi a) (deleted_spis f) → EndsSa a
    by-spi-0 : a.protocol ≡ protocol_esp → In (0 ∷ 0 ∷ 0 ∷ 0 ∷ []) (deleted_spis f) → EndsSa a
    by-new-rekey : a.protocol ≡ protocol_gike_update → (p : GroupSaPolicy) → NewRekey p → EndsSa a

  -- what SA `a` of the table becomes. It is kept as it was if the frame does not end it or if it is retiring already ("unknown or retiring
  -- ones are passed over"). A live SA that the frame ends is retired: only its condition changes, to the frame's tick and delay
  pub data Becomes (now : ℕ) (a : Sa) : Sa → Type 0 where
    kept : (EndsSa a → ⊥) ⊎ ((start delay : ℕ) × (a.condition ≡ Retiring start delay)) → Becomes now a a
    turned : a.condition ≡ Live → EndsSa a → (d : ℕ) → DelayAs d → Becomes now a (with_condition (Retiring now d) a)

  -- "First, SAs due at the tick go."
  pub record OldSa (s : State) (now : ℕ) (b : Sa) : Type 0 where
    pub was : Sa
    pub stood : In was (sas_of s.table)
    pub not-due : due now was ≡ false
    pub becomes : Becomes now was b

-- `b` is an old SA after the frame, in the words of the outcome
pub record Stayed (s : State) (now : ℕ) (f : Frame) (b : Sa) : Type 0 where
  pub old : Sa
  pub stood : In old (sas_of s.table)
  pub not-due : due now old ≡ false
  pub is : b ≡ old_sa now f old
