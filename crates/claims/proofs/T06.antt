-- The theorems that docs/CLAIMS.md cites under "Document 02: T-06, tell us where".
use mathlib.Core.Bool.{Bool}
use Prim.Native.Nat.{ℕ, ◌≤◌, ◌<◌}
use mathlib.Core.List.{List}
use mathlib.Core.Logic.{◌↔◌, ◌⊎◌}
use mathlib.Core.Path.{◌≡◌}
use lib.ListN.{length}
use Rattle.octets.specs.Walk.{broken}
use Rattle.wire_attributes.specs.Answers.{broken_at, spot_of}
use Rattle.wire_attributes.specs.Breaks.{FaultOfAttribute}
use Rattle.wire_attributes.specs.Layout.{attribute}
use Rattle.wire_attributes.specs.declared.tables.Place.{Place}
use Rattle.wire_frames.specs.Breaks.{BreaksFrame}
use Rattle.wire_frames.specs.Frame.{frame, frame_layout, Frame, figure}
use Rattle.wire_frames.specs.Grammar.{IsFrame}
use Rattle.gikev2.specs.Receive.{Receives, number_of, figure_of}
use Rattle.gikev2.specs.declared.Member.{Member}
use Rattle.gikev2.specs.declared.call.Answer.{Answer}
use Rattle.gikev2.specs.declared.call.Answer.TheVariants as answer
use Rattle.wire_attributes.proofs.BreakLaws as ofBreakLaws
use Rattle.wire_frames.proofs.FrameBreaks as ofFrameBreaks
use Rattle.gikev2.proofs.Where as ofWhere
pub use Rattle.wire_frames.proofs.AllBreaks.{too_long, key-too-long}

pub spot-broken : (p : Place) (b : ℕ) (s : List ℕ) (o : ℕ) → (spot_of s (attribute p b s) ≡ broken_at o) ↔ (FaultOfAttribute p s × (o ≡ b))
spot-broken = ofBreakLaws.spot-broken

pub broken-exactly : (profile : Bool) (s : List ℕ) (o : ℕ) → (frame profile s ≡ broken o) ↔ BreaksFrame profile s o
broken-exactly = ofFrameBreaks.broken-exactly

pub layout-broken : (profile : Bool) (s : List ℕ) (o : ℕ) → (frame_layout profile s ≡ broken_at o) ↔ BreaksFrame profile s o
layout-broken = ofFrameBreaks.layout-broken

pub one-break : (profile : Bool) (s : List ℕ) (m n : ℕ) → BreaksFrame profile s m → BreaksFrame profile s n → m ≡ n
one-break = ofFrameBreaks.one-break

pub whole-or-broken : (profile : Bool) (s : List ℕ) → ((x : Frame) × IsFrame profile s x) ⊎ ((o : ℕ) × BreaksFrame profile s o)
whole-or-broken = ofFrameBreaks.whole-or-broken

pub not-both : (profile : Bool) (s : List ℕ) (x : Frame) (o : ℕ) → IsFrame profile s x → BreaksFrame profile s o → ⊥
not-both = ofFrameBreaks.not-both

pub where-1 : (m : Member) (now : ℕ) (lent octets : List ℕ) (a : Answer) (next : Member) (r : Receives m now lent octets a next) →
    number_of a ≡ 1 → BreaksFrame m.state.profile octets (figure_of a)
where-1 = ofWhere.where-1

pub breaks-1 : (m : Member) (now : ℕ) (lent octets : List ℕ) (a : Answer) (next : Member) (r : Receives m now lent octets a next) (o : ℕ) →
    BreaksFrame m.state.profile octets o → (a ≡ answer.BrokenLayout o) × (next ≡ m)
breaks-1 = ofWhere.breaks-1

pub others-0 : (m : Member) (now : ℕ) (lent octets : List ℕ) (a : Answer) (next : Member) (r : Receives m now lent octets a next) →
    (number_of a ≡ 1 → ⊥) → figure_of a ≡ 0
others-0 = ofWhere.others-0

pub where-broken : (profile : Bool) (s : List ℕ) (o : ℕ) → BreaksFrame profile s o → (o ≡ 0) ⊎ ((28 ≤ o) × (o < length s))
where-broken = ofFrameBreaks.where-broken

pub figure-lies : (profile : Bool) (s : List ℕ) → (figure profile s ≡ 0) ⊎ ((28 ≤ figure profile s) × (figure profile s < length s))
figure-lies = ofFrameBreaks.figure-lies

pub figure-within : (m : Member) (now : ℕ) (lent octets : List ℕ) (a : Answer) (next : Member) (r : Receives m now lent octets a next) →
    (figure_of a ≡ 0) ⊎ ((28 ≤ figure_of a) × (figure_of a < length octets))
figure-within = ofWhere.figure-within
