-- The theorems that docs/CLAIMS.md cites under "Document 01: code places and their forms".
use mathlib.Core.Bool.{Bool}
use Prim.Native.Nat.{ℕ}
use mathlib.Core.List.{List, ◌∷◌, []}
use mathlib.Core.Logic.{◌↔◌}
use mathlib.Core.Path.{◌≡◌}
use Rattle.octets.specs.Numbers.{oct}
use Rattle.octets.specs.Walk.{broken, whole}
use Rattle.wire_attributes.specs.Answers.{layout_number, layout_offset}
use Rattle.wire_policies.specs.Policy.{Policy, policy}
use Rattle.wire_frames.specs.Frame.{frame_layout, Frame, frame}
use Rattle.wire_frames.specs.Grammar.{IsFrame}
use Rattle.wire_view.specs.View.{first_octet, shown_kind}
use Rattle.wire_frames.proofs.LayoutNumbers as ofLayoutNumbers
use Rattle.wire_view.proofs.KindLaws as ofKindLaws

pub number-0 : (profile : Bool) (s : List ℕ) → (layout_number (frame_layout profile s) ≡ 0) ↔ ((x : Frame) × IsFrame profile s x)
number-0 = ofLayoutNumbers.number-0

pub number-1 : (profile : Bool) (s : List ℕ) (o : ℕ) → frame profile s ≡ broken o →
    (layout_number (frame_layout profile s) ≡ 1) × (layout_offset (frame_layout profile s) ≡ o ∷ [])
number-1 = ofLayoutNumbers.number-1

pub kind-of-policy : (s : List ℕ) (x : Policy) → policy 0 s ≡ whole x [] → first_octet (shown_kind s) ≡ oct s 0 ∷ []
kind-of-policy = ofKindLaws.kind-of-policy

pub kind-of-none : (s : List ℕ) → ((x : Policy) → policy 0 s ≡ whole x [] → ⊥) → first_octet (shown_kind s) ≡ []
kind-of-none = ofKindLaws.kind-of-none
