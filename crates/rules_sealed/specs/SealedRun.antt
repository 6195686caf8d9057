-- A RUN in which frames come sealed too: the steps of rules_outcome's `Run`, and a fourth kind. No contract cites this file.
use Rattle.std.specs.Prelude.{ℕ, ◌≡◌, false, List, [], ◌∷◌}
use Rattle.state_keys.specs.Limits.{Limits}
use Rattle.wire_frames.specs.Frame.{Frame}
use Rattle.wire_frames.specs.Grammar.{IsFrame}
use Rattle.state.specs.declared.State.{State}
use Rattle.rfc5282.specs.Number10.{OpensInto}
use Rattle.rules_outcome.specs.Holding.{new_rekey}
use Rattle.rules_outcome.specs.Run.{Event, Takes, Quiet}
use Rattle.rules_sealed.specs.SealingKey.{sealing_part}
use Rattle.rules_sealed.specs.SealedOutcome.{SealedOutcome}

-- a step as it was, or a sealed frame's octets with the room and the tick
pub data SealedEvent : Type 0 where
  as_before : Event → SealedEvent
  handed-sealed : (octets room : List ℕ) (now : ℕ) → SealedEvent

module _ (limits : Limits) where
  pub data SealedTakes (s : State) : SealedEvent → State → Type 0 where
    takes : {x : Event} {next : State} → Takes limits s x next → SealedTakes s (as_before x) next
    answered-sealed : (octets room : List ℕ) (now n offset : ℕ) {next : State} {after : List ℕ} →
        SealedOutcome limits s now octets room n offset next after → SealedTakes s (handed-sealed octets room now) next

  pub data SealedRun : State → List SealedEvent → State → Type 0 where
    run_ends : (s : State) → SealedRun s [] s
    run-goes : (s : State) {m e : State} {x : SealedEvent} {l : List SealedEvent} → SealedTakes s x m → SealedRun m l e →
        SealedRun s (x ∷ l) e

  -- `P` holds of each state of the run, the first and the last included
  abbrev pub SealedThroughout : (State → Type 0) → {s e : State} {l : List SealedEvent} → SealedRun s l e → Type 0
  SealedThroughout P (run_ends s) = P s
  SealedThroughout P (run-goes s t r) = P s × SealedThroughout P r

  -- the step is not leaving, and not an accepted frame, opened or sealed, with a new Rekey SA
  abbrev pub SealedQuiet : {s e : State} {x : SealedEvent} → SealedTakes s x e → Type 0
  SealedQuiet (takes t) = Quiet limits t
  SealedQuiet {s = s} (answered-sealed octets room now n offset o) =
      (f : Frame) (opened : List ℕ) → OpensInto (sealing_part limits s) octets room opened → IsFrame s.profile opened f → n ≡ 0 →
      new_rekey f ≡ false

  -- each step of the run is quiet
  abbrev pub SealedAllQuiet : {s e : State} {l : List SealedEvent} → SealedRun s l e → Type 0
  SealedAllQuiet (run_ends s) = Unit {0}
  SealedAllQuiet (run-goes s t r) = SealedQuiet t × SealedAllQuiet r
