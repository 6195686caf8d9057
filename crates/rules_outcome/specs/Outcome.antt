-- THE OUTCOME: for every state, frame, lent key and tick the answer's number and the next state. "A refusal returns its number and the
-- member as it was."
use Rattle.std.specs.Prelude.{ℕ, suc, Bool, List}
use Rattle.state_keys.specs.Limits.{Limits}
use Rattle.wire_frames.specs.Frame.{Frame}
use Rattle.wire_frames.specs.Grammar.{IsFrame}
use Rattle.state.specs.declared.State.{State}
use Rattle.rules_outcome.specs.Answer.{FrameAnswers}
use Rattle.rules_outcome.specs.After.{After}

-- a frame whose layout is whole is judged by its tree
pub data Judged (limits : Limits) (s : State) (now : ℕ) (lent : List ℕ) (f : Frame) : ℕ → State → Type 0 where
  refused : (n : ℕ) → FrameAnswers limits s now lent f (suc n) → Judged limits s now lent f (suc n) s
  accepted : (next : State) → FrameAnswers limits s now lent f 0 → After limits s now lent f next → Judged limits s now lent f 0 next

-- 1: "under 28 or over 16,384 octets, header length .., major version not 2, or any first octet, length, .. or end that breaks the
-- layouts": no tree is laid out as these octets, for a member of this profile
abbrev pub NoTree : Bool → List ℕ → Type 0
NoTree profile octets = (f : Frame) → IsFrame profile octets f → ⊥

-- "the other numbers are judged on a frame whose layout is whole": by its tree, of which there is only one (`one-tree`,
-- wire_frames/proofs/FrameGrammar.antt)
pub data Outcome (limits : Limits) (s : State) (now : ℕ) (lent octets : List ℕ) : ℕ → State → Type 0 where
  no-layout : NoTree s.profile octets → Outcome limits s now lent octets 1 s
  by-tree : (f : Frame) {n : ℕ} {next : State} → IsFrame s.profile octets f → Judged limits s now lent f n next →
      Outcome limits s now lent octets n next
