-- The answer on a layout by document 01's number and offset: 0 where the octets are a frame's, else 1 with the offset at which the reading
-- broke.
use Rattle.wire_attributes.specs.declared.Broken.{Broken}
use Rattle.std.specs.Prelude.{Result, Ok, Err}
use mathlib.Core.Path.{◌≡◌, refl, ap, sym, ◌∙◌}
use mathlib.Core.Logic.{◌↔◌}
use mathlib.Core.List.{List, [], ◌∷◌}
use mathlib.Core.Bool.{Bool}
use Prim.Native.Nat.{ℕ}
use native.Mathlib.Omega.{arith}
use lib.ListN.{length}
use Rattle.octets.specs.Numbers.{oct}
use Rattle.octets.specs.Walk.{Reading, whole, broken}
use Rattle.wire_attributes.specs.Answers.{broken_at, layout_of, layout_number, layout_offset}
use Rattle.wire_frames.specs.Frame.{Frame, frame, frame_layout}
use Rattle.wire_frames.specs.Grammar.{IsFrame}
use Rattle.wire_frames.specs.Laid.{Laid}
use Rattle.wire_frames.proofs.FrameGrammar.{read-frame, frame-read}
use Rattle.wire_frames.proofs.FrameBreaks.{layout-broken}

-- "1: .. any first octet, length, SPI size, selector type, attribute format or end that breaks the layouts"
pub number-0 : (profile : Bool) (s : List ℕ) → (layout_number (frame_layout profile s) ≡ 0) ↔ ((x : Frame) × IsFrame profile s x)
unfolding frame_layout
number-0 profile s =
    (go (frame profile s) refl, λ i. ap (λ (y : Reading Frame). layout_number (layout_of y)) (frame-read profile s i.0 i.1))
  where
    go : (y : Reading Frame) → frame profile s ≡ y → layout_number (layout_of (frame profile s)) ≡ 0 → (x : Frame) × IsFrame profile s x
    go (whole x rest) e q = (x, read-frame profile s x rest e)
    go (broken o) e q = absurd (omega (arith, ap (λ (y : Reading Frame). layout_number (layout_of y)) e, q))

-- number 1 carries the offset of the structure that broke first (document 02, T-06); a whole frame has none
pub number-1 : (profile : Bool) (s : List ℕ) (o : ℕ) → frame profile s ≡ broken o →
    (layout_number (frame_layout profile s) ≡ 1) × (layout_offset (frame_layout profile s) ≡ o ∷ [])
unfolding frame_layout
number-1 profile s o e =
    (ap (λ (y : Reading Frame). layout_number (layout_of y)) e, ap (λ (y : Reading Frame). layout_offset (layout_of y)) e)

-- an answer carries the one offset o exactly where it says "broken at o"
carries : (r : Result (Unit {0}) Broken) (o : ℕ) → layout_offset r ≡ o ∷ [] → r ≡ broken_at o
carries (Ok u) o q = let z : ◌≡◌ {A = ℕ} 0 1 = ap length q in absurd (omega (arith, z))
carries (Err e) o q = let u : e.at ≡ o = ap (λ (l : List ℕ). oct l 0) q in ap broken_at u

-- what `layout_with_profile` promises, of any answer that is the definition's
pub laid : (profile : Bool) (s : List ℕ) (r : Result (Unit {0}) Broken) → r ≡ frame_layout profile s → Laid profile s r
laid profile s r e = record {
  layout = e;
  number = (λ q. (number-0 profile s).0 (sym (ap layout_number e) ∙ q), λ i. ap layout_number e ∙ (number-0 profile s).1 i);
  offset = λ o. (λ q. (layout-broken profile s o).0 (sym e ∙ carries r o q), λ i. ap layout_offset (e ∙ (layout-broken profile s o).1 i));
}
