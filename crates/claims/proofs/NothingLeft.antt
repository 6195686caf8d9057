-- The theorems that docs/CLAIMS.md cites under "Document 01: nothing left to choose".
use Prim.Native.Nat.{ℕ}
use mathlib.Core.List.{List}
use mathlib.Core.Path.{◌≡◌}
use Rattle.wire_frames.specs.Frame.{Frame}
use Rattle.state_keys.specs.Limits.{Limits}
use Rattle.state.specs.declared.State.{State}
use Rattle.rules_outcome.specs.Outcome.{Judged}
use Rattle.gikev2.specs.Receive.{Receives}
use Rattle.gikev2.specs.declared.Member.{Member}
use Rattle.gikev2.specs.declared.call.Answer.{Answer}
use Rattle.gikev2.proofs.ReceiveLaws as ofReceiveLaws
use Rattle.rules_outcome.proofs.Determined as ofDetermined

pub receives-one : (m : Member) (now : ℕ) (lent octets : List ℕ) (a b : Answer) (next after : Member) → Receives m now lent octets a next →
    Receives m now lent octets b after → (a ≡ b) × (next ≡ after)
receives-one = ofReceiveLaws.receives-one

pub judged-one : (limits : Limits) (s : State) (now : ℕ) (lent : List ℕ) (f : Frame) (n m : ℕ) (next after : State) →
    Judged limits s now lent f n next → Judged limits s now lent f m after → (n ≡ m) × (next ≡ after)
judged-one = ofDetermined.judged-one
