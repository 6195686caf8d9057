-- The theorems that docs/CLAIMS.md cites under "Document 02: T-12, rekeys in pieces".
use Prim.Native.Nat.{ℕ, ◌≤◌}
use mathlib.Core.Bool.{Bool, true, false}
use mathlib.Core.List.{List, [], ◌∷◌}
use mathlib.Core.Logic.{◌↔◌}
use mathlib.Core.Path.{◌≡◌}
use lib.Dec.{eqb}
use Rattle.octets.specs.Octets.{Octets}
use Rattle.rfc5282.specs.Keys.{aes_key_of, salt_of, FitPart}
use Rattle.rfc5282.specs.SealedFragment.{OpensFragment}
use Rattle.rfc5282.specs.OuterFragment.{outer_fragment, IsFragment}
use Rattle.rfc5282.specs.Number10.{UnopenedFragment, OpensFragmentInto}
use Rattle.rfc5282.proofs.FragmentLaws as ofLayout
use Rattle.rfc5282.proofs.PieceLaws as ofPiece
use Rattle.rfc5282.proofs.Number10Laws as ofNumber10
pub use Rattle.rfc5282.proofs.AllPieces.{fragment1-sealed, fragment2-sealed}
pub use Rattle.gikev2.proofs.FragmentOne.{receives-fragment-one}
use Rattle.state_keys.specs.Limits.{Limits, limits}
use Rattle.lists.specs.Lists.{any}
use Rattle.wire_frames.specs.Header.{header_of}
use Rattle.wire_frames.specs.Frame.{Frame}
use Rattle.wire_frames.specs.Grammar.{IsFrame}
use Rattle.state.specs.declared.State.{State}
use Rattle.state.specs.State.{new_state, state_formed}
use Rattle.state.specs.Blank.{StateBlank}
use Rattle.rules_outcome.specs.LifetimeSays.{LifetimesFit}
use Rattle.rules_outcome.specs.NamedKey.{ZeroOfRekeys}
use Rattle.rules_refusals.specs.Refusals.{applies}
use Rattle.fragments.specs.declared.Case.TheVariants.{Anew, PassedOver, Kept}
use Rattle.fragments.specs.declared.Collection.{Collection}
use Rattle.fragments.specs.declared.Names.{Names}
use Rattle.fragments.specs.Collection.{Waiting, empty_collection, fit, counted}
use Rattle.fragments.specs.Gathering.{case_of}
use Rattle.fragments.specs.inner.FitWaiting.{LongCollection}
pub use Rattle.fragments.proofs.AllSamples.{table-samples, complete-samples, whole-sample, fit-samples, so-far-samples}
use Rattle.rules_outcome.specs.Holding.{new_rekey}
use Rattle.rules_outcome.specs.Outcome.{Outcome}
use Rattle.rules_outcome.specs.Run.{LiveRekey, StandsAt}
use Rattle.rules_sealed.specs.SealingKey.{sealing_part}
use Rattle.rules_sealed.specs.SealedOutcome.{sealed_number2}
use Rattle.rules_fragments.specs.FragmentOutcome.{FragmentAnswer, refused, passed_over, waiting, complete, FragmentOutcome}
use Rattle.rules_fragments.specs.FragmentOrder.{FragmentRefused, FragmentPassed, FragmentWaits, AnsweredWhole}
use Rattle.rules_fragments.specs.FragmentSays.{SameGathered, Sound, kept_having}
use Rattle.rules_fragments.specs.FragmentRun.{FragmentEvent, FragmentRun, FragmentThroughout, FragmentAllQuiet, AcceptsRekey, AnnouncesNone}
use Rattle.rules_fragments.specs.FragmentRun.{CarriedRun, CarriedThroughout}
use Rattle.rules_fragments.specs.CaseSays.{StartsAnew, IsPassedOver, IsKeptBeside}
use Rattle.rules_fragments.specs.AnyOrder.{RekeyFrame, CutOf, InAnyOrder, CanBeHanded, LastAnswers}
use Rattle.rules_fragments.proofs.CasesExactly as ofCases
use Rattle.rules_fragments.proofs.AnswersExactly as ofAnswers
use Rattle.rules_fragments.proofs.FragmentDetermined as ofDetermined
use Rattle.rules_fragments.proofs.FragmentAnswered as ofAnswered
use Rattle.rules_fragments.proofs.FragmentCarried as ofCarried
use Rattle.rules_fragments.proofs.FragmentCounts as ofCounts
use Rattle.rules_fragments.proofs.FragmentRuns as ofRuns
use Rattle.rules_fragments.proofs.FragmentReplay as ofReplay
use Rattle.rules_fragments.proofs.FragmentCopies as ofCopies
use Rattle.rules_fragments.proofs.RekeyReplaced as ofReplaced
use Rattle.rules_fragments.proofs.AnyOrder as ofOrder
use Rattle.rules_fragments.proofs.AnyOrderAnswered as ofOrderAnswered
pub use Rattle.rules_fragments.proofs.AllTurns.{turns-are}

-- ---- the fragment
pub fragment-relates : (s : List ℕ) → Octets s → outer_fragment s ≡ true → IsFragment s
fragment-relates = ofLayout.fragment-relates

pub relates-fragment : (s : List ℕ) → IsFragment s → outer_fragment s ≡ true
relates-fragment = ofLayout.relates-fragment

pub piece-one : (part s x y : List ℕ) → OpensFragment (aes_key_of part) (salt_of part) s x → OpensFragment (aes_key_of part) (salt_of part) s y →
    x ≡ y
piece-one = ofPiece.piece-one

pub unopened-fragment-exactly : (part s room : List ℕ) → FitPart part → Octets s → outer_fragment s ≡ true →
    UnopenedFragment part s room ↔ ((x : List ℕ) → OpensFragmentInto part s room x → ⊥)
unopened-fragment-exactly = ofNumber10.unopened-fragment-exactly

-- ---- the table of cases
pub anew-exactly : (w : Waiting) (f : Names) → case_of w f ≡ Anew ↔ StartsAnew w f
anew-exactly = ofCases.anew-exactly

pub passed-exactly : (w : Waiting) (f : Names) → case_of w f ≡ PassedOver ↔ IsPassedOver w f
passed-exactly = ofCases.passed-exactly

pub kept-exactly : (w : Waiting) (f : Names) → case_of w f ≡ Kept ↔ IsKeptBeside w f
kept-exactly = ofCases.kept-exactly

-- ---- the outcome
pub fragment-one : (limits : Limits) (s : State) (now : ℕ) (c : Collection) (octets room : List ℕ) (a b : FragmentAnswer)
    (next other : State) (d e : Collection) (left rest : List ℕ) → FragmentOutcome limits s now c octets room a next d left →
    FragmentOutcome limits s now c octets room b other e rest → SameGathered a b next other d e left rest
fragment-one = ofDetermined.fragment-one

pub fragment-answered : (limits : Limits) (s : State) (now : ℕ) (c : Collection) (octets room : List ℕ) → Octets octets →
    ((applies (sealed_number2 limits s now (header_of octets)) ≡ true → ⊥) → FitPart (sealing_part limits s)) →
    ((a : FragmentAnswer) (next : State) (kept : Collection) (after : List ℕ) →
    FragmentOutcome limits s now c octets room a next kept after → ⊥) → ⊥
fragment-answered = ofAnswered.fragment-answered

pub fragment-refused-exactly : (limits : Limits) (s : State) (now : ℕ) (c : Collection) (octets room : List ℕ) (n offset : ℕ)
    (next : State) (kept : Collection) (after : List ℕ) →
    FragmentOutcome limits s now c octets room (refused n offset) next kept after
    ↔ FragmentRefused limits s now c octets room n offset next kept after
fragment-refused-exactly = ofAnswers.fragment-refused-exactly

pub fragment-passed-exactly : (limits : Limits) (s : State) (now : ℕ) (c : Collection) (octets room : List ℕ) (next : State)
    (kept : Collection) (after : List ℕ) →
    FragmentOutcome limits s now c octets room passed_over next kept after ↔ FragmentPassed limits s now c octets room next kept after
fragment-passed-exactly = ofAnswers.fragment-passed-exactly

pub fragment-waits-exactly : (limits : Limits) (s : State) (now : ℕ) (c : Collection) (octets room : List ℕ) (next : State)
    (kept : Collection) (after : List ℕ) →
    FragmentOutcome limits s now c octets room waiting next kept after ↔ FragmentWaits limits s now c octets room next kept after
fragment-waits-exactly = ofAnswers.fragment-waits-exactly

pub completes-as-whole : (limits : Limits) (s : State) (now : ℕ) (c : Collection) (octets room : List ℕ) (n offset : ℕ) (next : State)
    (kept : Collection) (after : List ℕ) →
    FragmentOutcome limits s now c octets room (complete n offset) next kept after
    ↔ AnsweredWhole limits s now c octets room n offset next kept after
completes-as-whole = ofAnswers.completes-as-whole

pub else-unchanged : (limits : Limits) (s : State) (now : ℕ) (c : Collection) (octets room : List ℕ) (a : FragmentAnswer) (next : State)
    (kept : Collection) (after : List ℕ) → FragmentOutcome limits s now c octets room a next kept after →
    ((n offset : ℕ) → a ≡ complete n offset → ⊥) → (next ≡ s) × (after ≡ room)
else-unchanged = ofAnswers.else-unchanged

pub complete-never-10 : (limits : Limits) (s : State) (now : ℕ) (c : Collection) (octets room : List ℕ) (n offset : ℕ) (next : State)
    (kept : Collection) (after : List ℕ) → FragmentOutcome limits s now c octets room (complete n offset) next kept after → n ≤ 9
complete-never-10 = ofAnswers.complete-never-10

pub refused-whole-again : (limits : Limits) (s : State) (now : ℕ) (c : Collection) (octets room : List ℕ) (n offset : ℕ) (next : State)
    (kept : Collection) (after : List ℕ) → FragmentOutcome limits s now c octets room (complete n offset) next kept after → (n ≡ 0 → ⊥) →
    (next ≡ s) × (kept ≡ empty_collection)
refused-whole-again = ofAnswers.refused-whole-again

pub one-of-five : (limits : Limits) (s : State) (now : ℕ) (c : Collection) (octets room : List ℕ) (n offset : ℕ) (next : State)
    (kept : Collection) (after : List ℕ) → FragmentOutcome limits s now c octets room (refused n offset) next kept after →
    any (eqb n) (1 ∷ 2 ∷ 10 ∷ 3 ∷ 7 ∷ []) ≡ true
one-of-five = ofAnswers.one-of-five

-- ---- in any order
pub in-any-order : (limits : Limits) (s : State) (frame : List ℕ) (pieces : List (List ℕ)) → RekeyFrame frame → CutOf frame pieces →
    InAnyOrder limits s frame pieces
in-any-order = ofOrder.in-any-order

pub can-be-handed : (limits : Limits) (s : State) (frame : List ℕ) (pieces : List (List ℕ)) → RekeyFrame frame → CutOf frame pieces →
    CanBeHanded limits s frame pieces
can-be-handed = ofOrderAnswered.can-be-handed

pub last-answers : (limits : Limits) (s : State) (frame : List ℕ) (pieces : List (List ℕ)) → RekeyFrame frame → CutOf frame pieces →
    LastAnswers limits s frame pieces
last-answers = ofOrderAnswered.last-answers

-- ---- collections
pub same-counted : (limits : Limits) (s : State) (now : ℕ) (octets room : List ℕ) (c d : Collection) → counted c ≡ counted d →
    (a : FragmentAnswer) (next : State) (kept : Collection) (after : List ℕ) →
    FragmentOutcome limits s now c octets room a next kept after →
    FragmentOutcome limits s now d octets room a next (kept_having d a kept) after
same-counted = ofCounts.same-counted

pub unfit-as-empty : (limits : Limits) (s : State) (now : ℕ) (octets room : List ℕ) (c : Collection) → fit c ≡ false →
    (a : FragmentAnswer) (next : State) (kept : Collection) (after : List ℕ) →
    FragmentOutcome limits s now c octets room a next kept after →
    FragmentOutcome limits s now empty_collection octets room a next (kept_having empty_collection a kept) after
unfit-as-empty = ofCounts.unfit-as-empty

pub empty-as-unfit : (limits : Limits) (s : State) (now : ℕ) (octets room : List ℕ) (c : Collection) → fit c ≡ false →
    (a : FragmentAnswer) (next : State) (kept : Collection) (after : List ℕ) →
    FragmentOutcome limits s now empty_collection octets room a next kept after →
    FragmentOutcome limits s now c octets room a next (kept_having c a kept) after
empty-as-unfit = ofCounts.empty-as-unfit

pub unfit-never-passed : (limits : Limits) (s : State) (now : ℕ) (octets room : List ℕ) (c : Collection) → fit c ≡ false → (next : State)
    (kept : Collection) (after : List ℕ) → FragmentOutcome limits s now c octets room passed_over next kept after → ⊥
unfit-never-passed = ofCounts.unfit-never-passed

pub waiting-sound : (limits : Limits) (s : State) (now : ℕ) (c : Collection) (octets room : List ℕ) → LongCollection c → (next : State)
    (kept : Collection) (after : List ℕ) → FragmentOutcome limits s now c octets room waiting next kept after →
    (fit kept ≡ true) × Sound kept
waiting-sound = ofCarried.waiting-sound

pub collections-sound : (limits : Limits) {s e : State} {d : Collection} (r : CarriedRun limits s empty_collection e d) →
    CarriedThroughout limits Sound r
collections-sound = ofCarried.collections-sound

-- ---- runs
pub fragment-members-formed : (profile : Bool) {e : State} {l : List FragmentEvent}
    (r : FragmentRun limits (new_state limits profile) l e) → FragmentThroughout limits (λ (m : State). state_formed limits m ≡ true) r
fragment-members-formed = ofRuns.fragment-members-formed

pub fragment-members-blank : (profile : Bool) {e : State} {l : List FragmentEvent}
    (r : FragmentRun limits (new_state limits profile) l e) → FragmentThroughout limits (StateBlank limits) r
fragment-members-blank = ofRuns.fragment-members-blank

pub fragment-members-profile : (profile : Bool) {e : State} {l : List FragmentEvent}
    (r : FragmentRun limits (new_state limits profile) l e) → FragmentThroughout limits (λ (m : State). m.profile ≡ profile) r
fragment-members-profile = ofRuns.fragment-members-profile

pub fragment-members-lifetimes : (profile : Bool) {e : State} {l : List FragmentEvent}
    (r : FragmentRun limits (new_state limits profile) l e) → FragmentThroughout limits LifetimesFit r
fragment-members-lifetimes = ofRuns.fragment-members-lifetimes

pub fragment-key-zero : (profile : Bool) {e : State} {l : List FragmentEvent} (r : FragmentRun limits (new_state limits profile) l e) →
    FragmentThroughout limits (ZeroOfRekeys limits) r
fragment-key-zero = ofRuns.fragment-key-zero

pub fragment-no-replay : (limits : Limits) {s₀ s₁ : State} {id : ℕ} (first : AcceptsRekey limits s₀ id s₁) →
    AnnouncesNone limits first → {s₂ : State} {l : List FragmentEvent} (r : FragmentRun limits s₁ l s₂) → FragmentAllQuiet limits r →
    {id' : ℕ} {s₃ : State} → id' ≤ id → AcceptsRekey limits s₂ id' s₃ → ⊥
fragment-no-replay = ofReplay.fragment-no-replay

pub fragment-none-any-more : (limits : Limits) {s₀ s₁ : State} {id : ℕ} (first : AcceptsRekey limits s₀ id s₁) →
    AnnouncesNone limits first → {s₂ : State} {l : List FragmentEvent} (r : FragmentRun limits s₁ l s₂) → FragmentAllQuiet limits r →
    {id' : ℕ} {s₃ : State} → id ≡ 4294967295 → AcceptsRekey limits s₂ id' s₃ → ⊥
fragment-none-any-more = ofReplay.fragment-none-any-more

pub copies-refused : (limits : Limits) {s₀ s₁ : State} {id : ℕ} (first : AcceptsRekey limits s₀ id s₁) → AnnouncesNone limits first →
    {s₂ : State} {l : List FragmentEvent} (r : FragmentRun limits s₁ l s₂) → FragmentAllQuiet limits r → (now : ℕ) (c : Collection)
    (octets room : List ℕ) → (header_of octets).message_id ≤ id → (a : FragmentAnswer) (next : State) (kept : Collection)
    (after : List ℕ) → FragmentOutcome limits s₂ now c octets room a next kept after →
    (n : ℕ) × (a ≡ refused n 0) × (any (eqb n) (1 ∷ 2 ∷ 10 ∷ 3 ∷ []) ≡ true)
copies-refused = ofCopies.copies-refused

pub copies_then : (limits : Limits) (s : State) (now : ℕ) (c : Collection) (octets room : List ℕ) (offset : ℕ) (next : State)
    (kept : Collection) (after : List ℕ) → FragmentOutcome limits s now c octets room (complete 0 offset) next kept after → (tick : ℕ)
    (d : Collection) (copy lent : List ℕ) → (header_of copy).spi ≡ (header_of octets).spi →
    (header_of copy).message_id ≤ (header_of octets).message_id → (a : FragmentAnswer) (last : State) (left : Collection) (rest : List ℕ) →
    FragmentOutcome limits next tick d copy lent a last left rest →
    (n : ℕ) × (a ≡ refused n 0) × (any (eqb n) (1 ∷ 2 ∷ 10 ∷ 3 ∷ []) ≡ true)
copies_then = ofCopies.copies_then

pub replaced-not-live : (limits : Limits) (s : State) (now : ℕ) (lent octets : List ℕ) (f : Frame) → IsFrame s.profile octets f →
    (next : State) → Outcome limits s now lent octets 0 next → new_rekey f ≡ true → (x : List ℕ) → StandsAt now x s →
    LiveRekey x next → ⊥
replaced-not-live = ofReplaced.replaced-not-live
