-- The theorems that docs/CLAIMS.md cites under "Demand 3".
use Prim.Native.Nat.{ℕ, ◌<◌}
use mathlib.Core.Bool.{true, false}
use mathlib.Core.List.{List}
use mathlib.Core.Logic.{◌↔◌, ◌⊎◌}
use mathlib.Core.Path.{◌≡◌}
use Rattle.wire_attributes.specs.Tree.{WrapKey}
use Rattle.wire_policies.specs.Policy.{GroupSaPolicy}
use Rattle.wire_frames.specs.Frame.{Frame}
use Rattle.wire_frames.specs.Grammar.{IsFrame}
use Rattle.state_keys.specs.Kinds.{padded}
use Rattle.state_keys.specs.Limits.{Limits}
use Rattle.state_sa.specs.Entry.{is_live}
use Rattle.state_sa.specs.declared.entry.Sa.{Sa}
use Rattle.state_table.specs.Table.{sas_of}
use Rattle.state.specs.declared.State.{State}
use Rattle.state.specs.declared.least.Least.{Least}
use Rattle.rules_refusals.specs.Contents.{wrap_keys_of, announced}
use Rattle.rules_refusals.specs.Fitness.{is_esp, encryption_octets, key_wrap_octets}
use Rattle.rules_chains.specs.Chain.{In}
use Rattle.rules_outcome.specs.After.{least_afterwards, delay_of}
use Rattle.rules_outcome.specs.AskedSays.{AskedSays}
use Rattle.rules_outcome.specs.Demand3.{Demand3, HeldAfter, EachSaOpens, OneMissing, Standing, Entered}
use Rattle.rules_outcome.specs.Holding.{OverHeldOf}
use Rattle.rules_outcome.specs.Meets.{Meets}
use Rattle.rules_outcome.specs.NamedKey.{Registration, Inband, OpensTo, OpensUnder}
use Rattle.rules_outcome.specs.Outcome.{Outcome}
use Rattle.rules_outcome.specs.RestSays.{Stayed, LeastAs, DelayAs, OldSa}
use Rattle.rules_outcome.specs.Stands.{HasWrapKey}
use Rattle.gikev2.proofs.Asked.{Answered}
use Rattle.gikev2.specs.Member.{sa_answer}
use Rattle.gikev2.specs.Receive.{Receives}
use Rattle.gikev2.specs.declared.Member.{Member}
use Rattle.state_keys.specs.Limits as figures
use Rattle.gikev2.specs.declared.call.Answer.TheVariants as answer
use Rattle.rules_outcome.proofs.Demand3 as ofDemand3
use Rattle.rules_outcome.proofs.Demands as ofDemands
use Rattle.rules_outcome.proofs.Judged9 as ofJudged9
use Rattle.rules_outcome.proofs.Stands as ofStands
use Rattle.rules_outcome.proofs.Rest as ofRest
use Rattle.rules_outcome.proofs.Asked as ofAsked
use Rattle.gikev2.proofs.Asked as ofGikev2Asked

pub demand-3-within : (s : State) (now : ℕ) (lent octets : List ℕ) (f : Frame) → IsFrame s.profile octets f → (n : ℕ) (next : State) →
    Outcome figures.limits s now lent octets n next → Demand3 figures.limits s now lent f octets n next
demand-3-within = ofDemand3.demand-3-within

pub demand-3 : (limits : Limits) (s : State) (now : ℕ) (lent octets : List ℕ) (f : Frame) (e : IsFrame s.profile octets f) (n : ℕ)
    (next : State) → Outcome limits s now lent octets n next → Demand3 limits s now lent f octets n next
demand-3 = ofDemand3.demand-3

pub held-after-registration :
    (limits : Limits) (s : State) (now : ℕ) (lent octets : List ℕ) (f : Frame) (e : IsFrame s.profile octets f) (next : State) →
    Outcome limits s now lent octets 0 next → Registration f → HeldAfter lent f next.held
held-after-registration = ofDemands.held-after-registration

pub entries-are : (f : Frame) (e : WrapKey) → In e (wrap_keys_of f) ↔ HasWrapKey f e
entries-are = ofStands.entries-are

pub accepted-when-each-opens : (limits : Limits) (s : State) (now : ℕ) (lent octets : List ℕ) (f : Frame)
    (e : IsFrame s.profile octets f) (none : (m : ℕ) → m < 9 → Meets limits s now lent octets m → ⊥) (n : ℕ) (next : State) →
    Outcome limits s now lent octets n next → (n ≡ 0) ↔ (EachSaOpens limits s now lent f × (OverHeldOf limits s now lent f → ⊥))
accepted-when-each-opens = ofJudged9.accepted-when-each-opens

pub copies-of-own-bag : (limits : Limits) (s : State) (now : ℕ) (lent octets : List ℕ) (f : Frame) (e : IsFrame s.profile octets f)
    (no-2 : Meets limits s now lent octets 2 → ⊥) (no-4 : Meets limits s now lent octets 4 → ⊥) (a : GroupSaPolicy) (x : List ℕ) →
    OpensTo limits s now lent f a x ↔ OpensUnder limits s now lent f a x
copies-of-own-bag = ofDemands.copies-of-own-bag

pub refused-when-one-does-not : (limits : Limits) (s : State) (now : ℕ) (lent octets : List ℕ) (f : Frame)
    (e : IsFrame s.profile octets f) (none : (m : ℕ) → m < 9 → Meets limits s now lent octets m → ⊥) (n : ℕ) (next : State) →
    Outcome limits s now lent octets n next → (n ≡ 9) ↔ OneMissing limits s now lent f
refused-when-one-does-not = ofJudged9.refused-when-one-does-not

pub accepted-9-or-over : (limits : Limits) (s : State) (now : ℕ) (lent octets : List ℕ) (f : Frame) (e : IsFrame s.profile octets f)
    (none : (m : ℕ) → m < 9 → Meets limits s now lent octets m → ⊥) (n : ℕ) (next : State) → Outcome limits s now lent octets n next →
    (n ≡ 0) ⊎ (n ≡ 9) ⊎ (n ≡ 7)
accepted-9-or-over = ofJudged9.accepted-9-or-over

pub refused-when-over : (limits : Limits) (s : State) (now : ℕ) (lent octets : List ℕ) (f : Frame) (e : IsFrame s.profile octets f)
    (none : (m : ℕ) → m < 9 → Meets limits s now lent octets m → ⊥) (n : ℕ) (next : State) → Outcome limits s now lent octets n next →
    (n ≡ 7) ↔ ((OneMissing limits s now lent f → ⊥) × OverHeldOf limits s now lent f)
refused-when-over = ofJudged9.refused-when-over

pub each_stands : (limits : Limits) (s : State) (now : ℕ) (lent octets : List ℕ) (f : Frame) (e : IsFrame s.profile octets f)
    (next : State) (o : Outcome limits s now lent octets 0 next) (p : GroupSaPolicy) → In p (announced f) →
    Standing limits s now lent f next p
each_stands = ofDemands.each_stands

pub entered-live : (limits : Limits) (s : State) (now : ℕ) (lent octets : List ℕ) (f : Frame) (e : IsFrame s.profile octets f) (b : Sa) →
    Entered limits s now lent f b → is_live b.condition ≡ true
entered-live = ofDemands.entered-live

pub entered-parts : (limits : Limits) (s : State) (now : ℕ) (lent octets : List ℕ) (f : Frame) (e : IsFrame s.profile octets f) (b : Sa)
    (n : Entered limits s now lent f b) → is_esp n.policy ≡ false →
    (b.encryption ≡ encryption_octets n.policy) × (b.wrapping ≡ key_wrap_octets n.policy) × (b.octets ≡ padded 68 n.octets)
entered-parts = ofDemands.entered-parts

pub table-after : (limits : Limits) (s : State) (now : ℕ) (lent octets : List ℕ) (f : Frame) (e : IsFrame s.profile octets f)
    (next : State) (o : Outcome limits s now lent octets 0 next) (b : Sa) →
    In b (sas_of next.table) ↔ (Entered limits s now lent f b ⊎ Stayed s now f b)
table-after = ofDemands.table-after

pub rest-after : (limits : Limits) (s : State) (now : ℕ) (lent octets : List ℕ) (f : Frame) (e : IsFrame s.profile octets f)
    (next : State) (o : Outcome limits s now lent octets 0 next) → (Inband f → next.held ≡ s.held) × (next.least ≡ least_afterwards s f)
rest-after = ofDemands.rest-after

pub least-after : (limits : Limits) (s : State) (now : ℕ) (lent octets : List ℕ) (f : Frame) (e : IsFrame s.profile octets f)
    (next : State) (o : Outcome limits s now lent octets 0 next) (l : Least) → (next.least ≡ l) ↔ LeastAs f s.least l
least-after = ofRest.least-after

pub delay-after : (limits : Limits) (s : State) (now : ℕ) (lent octets : List ℕ) (f : Frame) (e : IsFrame s.profile octets f)
    (next : State) (o : Outcome limits s now lent octets 0 next) (d : ℕ) → (delay_of f ≡ d) ↔ DelayAs f d
delay-after = ofRest.delay-after

pub old-after : (limits : Limits) (s : State) (now : ℕ) (lent octets : List ℕ) (f : Frame) (e : IsFrame s.profile octets f)
    (next : State) (o : Outcome limits s now lent octets 0 next) (b : Sa) →
    In b (sas_of next.table) ↔ (Entered limits s now lent f b ⊎ OldSa f s now b)
old-after = ofRest.old-after

pub asked-after : (limits : Limits) (s : State) (now : ℕ) (lent octets : List ℕ) (f : Frame) (e : IsFrame s.profile octets f)
    (next : State) (o : Outcome limits s now lent octets 0 next) (p : GroupSaPolicy) → In p (announced f) →
    AskedSays limits s now lent f next p
asked-after = ofAsked.asked-after

pub answered-after : (m : Member) (now : ℕ) (lent s : List ℕ) (f : Frame) (e : IsFrame m.state.profile s f) (next : Member)
    (r : Receives m now lent s answer.Accepted next) (p : GroupSaPolicy) → In p (announced f) →
    Answered m now lent s f e next r p (sa_answer p.protocol p.spi next)
answered-after = ofGikev2Asked.answered-after
