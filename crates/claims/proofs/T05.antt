-- The theorems that docs/CLAIMS.md cites under "Document 02: T-05, the frame as it came off the wire".
use Prim.Native.Nat.{ℕ, suc, ◌≤◌}
use mathlib.Core.Bool.{Bool, true}
use mathlib.Core.List.{List}
use mathlib.Core.Logic.{◌↔◌}
use mathlib.Core.Path.{◌≡◌}
use lib.ListN.{length}
use Rattle.octets.specs.Octets.{Octets}
use Rattle.fips197.specs.Key.{Key}
use Rattle.sp800_38d.specs.Encryption.{nonce_octets}
use Rattle.sp800_38d.specs.Decryption.{Unseals, Decrypts}
use Rattle.sp800_38d.proofs.DecryptionLaws as ofDecryption
use Rattle.sp800_38d.proofs.SealLaws as ofSeal
use Rattle.gcm.specs.Opening.{put_at_start}
use Rattle.rfc5282.specs.Keys.{aes_key_of, salt_of, FitPart}
use Rattle.rfc5282.specs.SealedFrame.{Choice, FitChoice, OpenedFrame, sealed_frame, OpensFrame}
use Rattle.rfc5282.specs.Outer.{outer, IsOuter}
use Rattle.rfc5282.specs.Number10.{Unopened, OpensInto}
use Rattle.rfc5282.proofs.OneLaws as ofOne
use Rattle.rfc5282.proofs.LayoutLaws as ofLayout
use Rattle.rfc5282.proofs.Number10Laws as ofNumber10
pub use Rattle.rfc5282.proofs.AllSamples.{sample-sealed}
use Rattle.state_keys.specs.Limits.{Limits, limits}
use Rattle.wire_frames.specs.Frame.{figure}
use Rattle.wire_frames.specs.Header.{header_of}
use Rattle.state.specs.declared.State.{State}
use Rattle.state.specs.State.{new_state, state_formed}
use Rattle.state.specs.Blank.{StateBlank}
use Rattle.rules_refusals.specs.Refusals.{applies}
use Rattle.rules_outcome.specs.Answer.{First}
use Rattle.rules_outcome.specs.Outcome.{Outcome}
use Rattle.rules_sealed.specs.SealingKey.{sealing_part}
use Rattle.rules_sealed.specs.SealedOutcome.{sealed_number2, sealed_conditions, SealedOutcome}
use Rattle.rules_sealed.specs.SealedOrder.{SealedRefused, SealedAccepted}
use Rattle.rules_sealed.specs.SealedRun.{SealedEvent, SealedRun, SealedThroughout}
use Rattle.rules_sealed.specs.SealedSays.{LongArrays, SealedOver}
use Rattle.rules_sealed.proofs.SealedDetermined as ofDetermined
use Rattle.rules_sealed.proofs.SealedKeys as of_keys
use Rattle.rules_sealed.proofs.SealedOrder as ofOrder
use Rattle.rules_sealed.proofs.SealedRuns as ofRuns
pub use Rattle.rules_sealed.proofs.AllNumbers.{order_is, others-2}
pub use Rattle.rules_sealed.proofs.SealedHeader.{two-not-again}
pub use Rattle.rules_sealed.proofs.SealedRuns.{sealed-no-replay}
pub use Rattle.gikev2.proofs.SealedLaws.{receives-sealed-one}

-- ---- SP 800-38D
pub unseals-decrypts : (key nonce a octets p : List ℕ) → Unseals key nonce a octets p → Decrypts key nonce a octets p
unseals-decrypts = ofDecryption.unseals-decrypts

pub decrypts-unseals : (key nonce a octets p : List ℕ) → Key key → length nonce ≡ nonce_octets → Octets nonce → Octets octets →
    Decrypts key nonce a octets p → Unseals key nonce a octets p
decrypts-unseals = ofDecryption.decrypts-unseals

pub unseals-one : (key nonce a octets x y : List ℕ) → Unseals key nonce a octets x → Unseals key nonce a octets y → x ≡ y
unseals-one = ofSeal.unseals-one

-- ---- the sealed frame
pub opens_one : (part s o p : List ℕ) → OpensFrame (aes_key_of part) (salt_of part) s o → OpensFrame (aes_key_of part) (salt_of part) s p → o ≡ p
opens_one = ofOne.opens_one

pub outer-relates : (s : List ℕ) → Octets s → outer s ≡ true → IsOuter s
outer-relates = ofLayout.outer-relates

pub relates-outer : (s : List ℕ) → IsOuter s → outer s ≡ true
relates-outer = ofLayout.relates-outer

pub unopened-exactly : (part s room : List ℕ) → FitPart part → Octets s → outer s ≡ true →
    Unopened part s room ↔ ((x : List ℕ) → OpensInto part s room x → ⊥)
unopened-exactly = ofNumber10.unopened-exactly

-- ---- the outcome
pub sealed-one : (limits : Limits) (s : State) (now : ℕ) (octets room : List ℕ) (n m offset other : ℕ) (next after : State)
    (left rest : List ℕ) → SealedOutcome limits s now octets room n offset next left →
    SealedOutcome limits s now octets room m other after rest → (n ≡ m) × (offset ≡ other) × (next ≡ after) × (left ≡ rest)
sealed-one = ofDetermined.sealed-one

pub receives-opened : (limits : Limits) (s : State) (now : ℕ) (octets room o : List ℕ) →
    First (sealed_conditions limits s now octets room) 0 → OpensInto (sealing_part limits s) octets room o → (lent : List ℕ)
    (n offset : ℕ) (next : State) (after : List ℕ) →
    SealedOutcome limits s now octets room n offset next after
    ↔ (Outcome limits s now lent o n next × (offset ≡ figure s.profile o) × (after ≡ put_at_start o room))
receives-opened = ofDetermined.receives-opened

pub sealed-refused-exactly : (limits : Limits) (s : State) (now : ℕ) (octets room : List ℕ) (n offset : ℕ) (next : State)
    (after : List ℕ) → SealedOutcome limits s now octets room (suc n) offset next after
    ↔ SealedRefused limits s now octets room (suc n) offset next after
sealed-refused-exactly = ofOrder.sealed-refused-exactly

pub sealed-accepted-exactly : (limits : Limits) (s : State) (now : ℕ) (octets room : List ℕ) (offset : ℕ) (next : State)
    (after : List ℕ) → SealedOutcome limits s now octets room 0 offset next after
    ↔ SealedAccepted limits s now octets room offset next after
sealed-accepted-exactly = ofOrder.sealed-accepted-exactly

pub one-of-ten : (limits : Limits) (s : State) (now : ℕ) (octets room : List ℕ) (n offset : ℕ) (next : State) (after : List ℕ) →
    SealedOutcome limits s now octets room n offset next after → n ≤ 10
one-of-ten = ofOrder.one-of-ten

pub sealed-never-10 : (limits : Limits) (s : State) (now : ℕ) (o room : List ℕ) (c : Choice) → FitChoice c → OpenedFrame o →
    length (sealed_frame (aes_key_of (sealing_part limits s)) (salt_of (sealing_part limits s)) o c) ≤ 16384 → 16384 ≤ length room →
    (n offset : ℕ) (next : State) (after : List ℕ) →
    SealedOutcome limits s now (sealed_frame (aes_key_of (sealing_part limits s)) (salt_of (sealing_part limits s)) o c) room n offset next
    after →
    n ≡ 10 → ⊥
sealed-never-10 = ofDetermined.sealed-never-10

pub receive-never-10 : (limits : Limits) (s : State) (now : ℕ) (lent octets : List ℕ) (n : ℕ) (next : State) →
    Outcome limits s now lent octets n next → n ≡ 10 → ⊥
receive-never-10 = ofDetermined.receive-never-10

pub sealed-over : (limits : Limits) (s : State) (now : ℕ) (octets : List ℕ) →
    (applies (sealed_number2 limits s now (header_of octets)) ≡ true → ⊥) → LongArrays s →
    SealedOver s now octets (sealing_part limits s)
sealed-over = of_keys.sealed-over

-- ---- runs
pub sealed-members-formed : (profile : Bool) {e : State} {l : List SealedEvent} (r : SealedRun limits (new_state limits profile) l e) →
    SealedThroughout limits (λ (m : State). state_formed limits m ≡ true) r
sealed-members-formed = ofRuns.sealed-members-formed

pub sealed-members-blank : (profile : Bool) {e : State} {l : List SealedEvent} (r : SealedRun limits (new_state limits profile) l e) →
    SealedThroughout limits (StateBlank limits) r
sealed-members-blank = ofRuns.sealed-members-blank
