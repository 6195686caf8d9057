-- From what the reader of frames answers to the outcome, which is defined by the grammar alone: the one place where they meet.
use native.Mathlib.Omega.{arith}
use Prim.Native.Nat.{ℕ}
use mathlib.Core.Path.{◌≡◌, refl, ap, sym, ◌∙◌}
use mathlib.Core.Bool.{Bool}
use mathlib.Core.List.{List, []}
use Rattle.octets.specs.Walk.{Reading, whole, broken}
use Rattle.state_keys.specs.Limits.{Limits}
use Rattle.wire_frames.specs.Frame.{Frame, frame}
use Rattle.wire_frames.specs.Grammar.{IsFrame}
use Rattle.wire_frames.proofs.FrameGrammar.{read-frame, frame-read}
use Rattle.state.specs.declared.State.{State}
use Rattle.rules_outcome.specs.Outcome.{Judged, NoTree, Outcome, no-layout, by-tree}

abbrev is_broken : {A : Type 0} → Reading A → ℕ
is_broken (whole a rest) = 0
is_broken (broken o) = 1

not-both : {A : Type 0} (x : Reading A) (a : A) (rest : List ℕ) (o : ℕ) → x ≡ whole a rest → x ≡ broken o → ⊥
not-both x a rest o e d = let z : ◌≡◌ {A = ℕ} 0 1 = ap is_broken (sym e ∙ d) in absurd (omega arith)

-- a reading breaks exactly where no tree is laid out as the octets
pub broken-none : (profile : Bool) (octets : List ℕ) (o : ℕ) → frame profile octets ≡ broken o → NoTree profile octets
broken-none profile octets o e f i = not-both (frame profile octets) f [] o (frame-read profile octets f i) e

pub none-broken : (profile : Bool) (octets : List ℕ) → NoTree profile octets → (o : ℕ) × (frame profile octets ≡ broken o)
none-broken profile octets none = go (frame profile octets) refl
  where
    go : (r : Reading Frame) → frame profile octets ≡ r → (o : ℕ) × (frame profile octets ≡ broken o)
    go (whole f rest) e = absurd (none f (read-frame profile octets f rest e))
    go (broken o) e = (o, e)

-- where not every tree is ruled out, one is laid out as the octets
pub tree_of : (profile : Bool) (octets : List ℕ) → (NoTree profile octets → ⊥) → (f : Frame) × IsFrame profile octets f
tree_of profile octets some = go (frame profile octets) refl
  where
    go : (r : Reading Frame) → frame profile octets ≡ r → (f : Frame) × IsFrame profile octets f
    go (whole f rest) e = (f, read-frame profile octets f rest e)
    go (broken o) e = absurd (some (broken-none profile octets o e))

module _ (limits : Limits) (s : State) (now : ℕ) (lent octets : List ℕ) where
  pub outcome-broken : (o : ℕ) → frame s.profile octets ≡ broken o → Outcome limits s now lent octets 1 s
  outcome-broken o e = no-layout (broken-none s.profile octets o e)

  pub outcome-read : (f : Frame) → frame s.profile octets ≡ whole f [] → (n : ℕ) (next : State) → Judged limits s now lent f n next →
      Outcome limits s now lent octets n next
  outcome-read f e n next j = by-tree f (read-frame s.profile octets f [] e) j
