-- WHICH RUNS ARE QUIET: the laws on replay (RunsReplay.antt) speak of them. A frame that is refused is quiet, whatever it announces; so are
-- a frame that announces no Rekey SA, whatever its answer, and a sweep; and so is a run of such steps, of any number.
use Prim.Native.Nat.{ℕ}
use mathlib.Core.Path.{◌≡◌, ap, ◌∙◌}
use mathlib.Core.Bool.{false}
use mathlib.Core.List.{List}
use Rattle.state_keys.specs.Limits.{Limits}
use Rattle.wire_frames.specs.Frame.{Frame}
use Rattle.wire_frames.specs.Grammar.{IsFrame}
use Rattle.wire_frames.proofs.FrameGrammar.{one-tree}
use Rattle.state.specs.declared.State.{State}
use Rattle.rules_outcome.specs.Holding.{new_rekey}
use Rattle.rules_outcome.specs.Outcome.{Outcome}
use Rattle.rules_outcome.specs.Run.{Event, Takes, answered, swept, Run, ends, goes, Quiet, AllQuiet}

module _ (limits : Limits) (s : State) where
  module _ (octets lent : List ℕ) (now n : ℕ) (next : State) (o : Outcome limits s now lent octets n next) where
    pub refused-quiet : (n ≡ 0 → ⊥) → Quiet limits (answered octets lent now n o)
    refused-quiet h f e z = absurd (h z)

    pub without-rekey-quiet : (f : Frame) → IsFrame s.profile octets f → new_rekey f ≡ false → Quiet limits (answered octets lent now n o)
    without-rekey-quiet f e none g e' z = ap new_rekey (one-tree s.profile octets g f e' e) ∙ none

  pub sweep-quiet : (now : ℕ) → Quiet limits {s = s} (swept now)
  sweep-quiet now = tt

  pub no-step-quiet : AllQuiet limits (ends s)
  no-step-quiet = tt

  pub step-quiet : {m e : State} {x : Event} {l : List Event} (t : Takes limits s x m) (r : Run limits m l e) → Quiet limits t →
      AllQuiet limits r → AllQuiet limits (goes s t r)
  step-quiet t r q a = (q, a)
