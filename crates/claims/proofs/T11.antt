-- The theorems that docs/CLAIMS.md cites under "Document 02: T-11, fresh tree keys in a rekey".
use Prim.Native.Nat.{ℕ, ◌+◌, ◌≤◌}
use mathlib.Core.Path.{◌≡◌}
use mathlib.Core.Bool.{Bool, true, false}
use mathlib.Core.Logic.{◌↔◌}
use mathlib.Core.List.{List, [], Memᴰ}
use lib.ListN.{length}
use Rattle.octets.specs.Numbers.{oct}
use Rattle.ikev2_numbers.specs.Codes.{exchange_at, gsa_rekey}
use Rattle.state_keys.specs.Limits.{Limits}
use Rattle.state_keys.specs.Limits as figures
use Rattle.wire_attributes.specs.Tree.{SaKey, WrapKey}
use Rattle.wire_bags.specs.Bag.{GroupKeyBag}
use Rattle.wire_frames.specs.Exchange.{reads_fresh}
use Rattle.wire_frames.specs.Frame.{Frame, frame}
use Rattle.wire_frames.specs.Grammar.{IsFrame}
use Rattle.wire_frames.specs.Breaks.{BreaksFrame}
use Rattle.wire_frames.specs.Plain.{plain_frame}
use Rattle.wire_frames.proofs.PlainLaws as ofPlainLaws
use Rattle.state.specs.declared.State.{State}
use Rattle.state.specs.declared.held.HeldKey.{HeldKey}
use Rattle.state.specs.declared.held.Held.{Held}
use Rattle.state.specs.Held.{held_of, ids_of, distinct}
use Rattle.state.specs.State.{new_state}
use Rattle.rules_refusals.specs.Contents.{group_bags, fresh_keys_of}
use Rattle.rules_refusals.proofs.Contents as ofContents
use Rattle.rules_refusals.specs.Reordered.{AnyOrder, Reordered}
use Rattle.rules_chains.specs.Chain.{In, Root}
use Rattle.rules_chains.specs.Refusals.{EntriesConflict}
use Rattle.rules_chains.specs.Path.{KeyPath}
use Rattle.rules_chains.proofs.WorkingPath.{Ends}
use Rattle.rules_outcome.specs.Holding.{path_before, OverHeld}
use Rattle.rules_outcome.specs.Meets.{Meets}
use Rattle.rules_outcome.specs.Outcome.{Outcome}
use Rattle.rules_outcome.specs.OverSays.{OverSays}
use Rattle.rules_outcome.specs.BeforeT11.{OutcomeBefore}
use Rattle.rules_outcome.specs.Run.{Event, Run, Throughout}
use Rattle.rules_outcome.specs.Stands.{HasFreshKey}
use Rattle.rules_outcome.proofs.AboutHeld.{HeldSamples}
use Rattle.rules_chains.proofs.WorkingPath as ofWorkingPath
use Rattle.rules_outcome.proofs.AboutHeld as ofAboutHeld
use Rattle.rules_outcome.proofs.AsBefore as ofAsBefore
use Rattle.rules_outcome.proofs.BeforeOne as ofBeforeOne
use Rattle.rules_outcome.proofs.FreshRead as ofFreshRead
use Rattle.rules_outcome.proofs.OverSays as ofOverSays
use Rattle.rules_outcome.proofs.PathBefore as ofPathBefore
use Rattle.rules_outcome.proofs.Room as ofRoom
use Rattle.rules_outcome.proofs.Runs as ofRuns
use Rattle.rules_outcome.proofs.Stands as ofStands
pub use Rattle.rules_chains.proofs.PathSamples.{path-lowest, lowest-alone, path-to-default, path-of-held}
pub use Rattle.rules_refusals.proofs.SamplesOfFresh.{samples_of_fresh}
pub use Rattle.rules_outcome.proofs.HeldRekey.{after-rekey}

-- "private attribute 16385 in the Rekey SA's Group Key Bag"; "Elsewhere, and with the profile off, the attribute is skipped"
pub fresh-in-rekey-bags : (profile : Bool) (octets : List ℕ) (f : Frame) (e : IsFrame profile octets f) (b : GroupKeyBag) →
    Memᴰ b (group_bags f) → (w : WrapKey) → Memᴰ w b.fresh → b.protocol ≡ 6
fresh-in-rekey-bags = ofFreshRead.fresh-in-rekey-bags

pub no-fresh : (profile : Bool) (octets : List ℕ) (f : Frame) (e : IsFrame profile octets f) →
    reads_fresh profile f.header.exchange ≡ false → fresh_keys_of f ≡ []
no-fresh = ofFreshRead.no-fresh

-- the layout: with the profile off no fresh key is read; in an exchange other than GSA_REKEY the profile changes nothing
pub off-reads-none : (s : List ℕ) (f : Frame) → IsFrame false s f → plain_frame f ≡ f
off-reads-none = ofPlainLaws.off-reads-none

pub same-elsewhere : (profile : Bool) (s : List ℕ) → (oct s exchange_at ≡ gsa_rekey → ⊥) → frame profile s ≡ frame false s
same-elsewhere = ofPlainLaws.same-elsewhere

pub breaks-elsewhere : (profile : Bool) (s : List ℕ) (o : ℕ) → (oct s exchange_at ≡ gsa_rekey → ⊥) → BreaksFrame profile s o →
    BreaksFrame false s o
breaks-elsewhere = ofPlainLaws.breaks-elsewhere

pub fresh-are : (f : Frame) (e : WrapKey) → In e (fresh_keys_of f) ↔ HasFreshKey f e
fresh-are = ofStands.fresh-are

pub profile-off : (s : State) → s.profile ≡ false → (now : ℕ) (lent octets : List ℕ) (n : ℕ) (next : State) →
    Outcome figures.limits s now lent octets n next → OutcomeBefore figures.limits s now lent octets n next
profile-off = ofAsBefore.profile-off

pub elsewhere : (s : State) (now : ℕ) (lent octets : List ℕ) → (oct octets exchange_at ≡ gsa_rekey → ⊥) → (n : ℕ) (next : State) →
    Outcome figures.limits s now lent octets n next → OutcomeBefore figures.limits s now lent octets n next
elsewhere = ofAsBefore.elsewhere

pub before-one : (limits : Limits) (s : State) (now : ℕ) (lent octets : List ℕ) (k m : ℕ) (next after : State) →
    OutcomeBefore limits s now lent octets k next → OutcomeBefore limits s now lent octets m after → (k ≡ m) × (next ≡ after)
before-one = ofBeforeOne.before-one

-- "equal paths are chosen by the smaller Key ID they end on": a key that chains start with
pub path-ends : (roots : List Root) (entries : List WrapKey) (size : ℕ) (copies : List SaKey) (ids : List ℕ) (end : ℕ) →
    KeyPath roots entries size copies ids end → Ends roots entries size end
path-ends = ofWorkingPath.path-ends

-- the held list after a fresh path
pub held-samples : HeldSamples
held-samples = ofAboutHeld.held-samples

pub before-distinct : (path : List HeldKey) (end : ℕ) (old : List HeldKey) (once : distinct (ids_of path) ≡ true)
    (each : distinct (ids_of old) ≡ true) → distinct (ids_of (path_before path end old)) ≡ true
before-distinct = ofPathBefore.before-distinct

pub room-in-registration : (roots : List Root) (entries : List WrapKey) (size : ℕ) (limits : Limits) (copies : List SaKey) (b : Bool) →
    (EntriesConflict roots entries size → ⊥) → length entries ≤ limits.held_keys →
    OverHeld roots entries size limits b copies (held_of limits []) → ⊥
room-in-registration = ofRoom.room-in-registration

pub room-without-entries : (roots : List Root) (entries : List WrapKey) (size : ℕ) (limits : Limits) (copies : List SaKey) (b : Bool)
    (old : Held) → entries ≡ [] → old.count ≤ limits.held_keys → OverHeld roots entries size limits b copies old → ⊥
room-without-entries = ofRoom.room-without-entries

pub room-for-both : (roots : List Root) (entries : List WrapKey) (size : ℕ) (limits : Limits) (copies : List SaKey) (b : Bool)
    (old : Held) → (EntriesConflict roots entries size → ⊥) → length entries + old.count ≤ limits.held_keys →
    OverHeld roots entries size limits b copies old → ⊥
room-for-both = ofRoom.room-for-both

-- "Over 128 then is 7, judged after 9"
pub over-then-exactly : (s : State) (now : ℕ) (lent octets : List ℕ) (f : Frame) → IsFrame s.profile octets f →
    ((m : ℕ) → Meets figures.limits s now lent octets m → ⊥) → (n : ℕ) (next : State) → Outcome figures.limits s now lent octets n next →
    (n ≡ 7) ↔ OverSays figures.limits s now lent f
over-then-exactly = ofOverSays.over-then-exactly

-- "Leaving keeps the profile"
pub members-profile : (profile : Bool) {e : State} {l : List Event} (r : Run figures.limits (new_state figures.limits profile) l e) →
    Throughout figures.limits (λ (m : State). m.profile ≡ profile) r
members-profile = ofRuns.members-profile

pub fresh-keys-order : {f g : Frame} (r : Reordered f g) → AnyOrder ◌≡◌ (fresh_keys_of f) (fresh_keys_of g)
fresh-keys-order = ofContents.fresh-keys-order
