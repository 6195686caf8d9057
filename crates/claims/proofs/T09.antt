-- The theorems that docs/CLAIMS.md cites under "Document 02: T-09, a key that wraps itself".
use Prim.Native.Nat.{ℕ, ◌<◌}
use mathlib.Core.Bool.{true}
use mathlib.Core.List.{List}
use mathlib.Core.Logic.{◌↔◌}
use mathlib.Core.Path.{◌≡◌}
use Rattle.wire_frames.specs.Frame.{Frame}
use Rattle.wire_frames.specs.Grammar.{IsFrame}
use Rattle.state_keys.specs.Limits.{Limits}
use Rattle.state.specs.declared.State.{State}
use Rattle.rules_refusals.specs.Number6.{wraps_itself}
use Rattle.rules_outcome.specs.Meets.{Meets}
use Rattle.rules_outcome.specs.NamedKey.{Registration}
use Rattle.rules_outcome.specs.Outcome.{Outcome}
use Rattle.rules_outcome.specs.WrapsItself.{WrapsItself}
use Rattle.rules_outcome.proofs.WrapsItself as ofWrapsItself
pub use Rattle.rules_refusals.proofs.SamplesAlone.{alone6}
pub use Rattle.rules_refusals.proofs.SamplesOf6.{samples_of6}

pub clause-exactly : (f : Frame) → (wraps_itself f ≡ true) ↔ WrapsItself f
clause-exactly = ofWrapsItself.clause-exactly

pub meets-number6 : (limits : Limits) (s : State) (now : ℕ) (lent octets : List ℕ) (f : Frame) (e : IsFrame s.profile octets f)
    (w : WrapsItself f) → Meets limits s now lent octets 6
meets-number6 = ofWrapsItself.meets-number6

pub answered-number6 : (limits : Limits) (s : State) (now : ℕ) (lent octets : List ℕ) (f : Frame) (e : IsFrame s.profile octets f)
    (w : WrapsItself f) (low : (m : ℕ) → m < 6 → Meets limits s now lent octets m → ⊥) (n : ℕ) (next : State) →
    Outcome limits s now lent octets n next → (n ≡ 6) × (next ≡ s)
answered-number6 = ofWrapsItself.answered-number6

pub never-accepted : (limits : Limits) (s : State) (now : ℕ) (lent octets : List ℕ) (f : Frame) (e : IsFrame s.profile octets f)
    (w : WrapsItself f) (next : State) → Outcome limits s now lent octets 0 next → ⊥
never-accepted = ofWrapsItself.never-accepted

pub in-a-registration : (limits : Limits) (s : State) (now : ℕ) (lent octets : List ℕ) (f : Frame) (e : IsFrame s.profile octets f)
    (w : WrapsItself f) (low : (m : ℕ) → m < 6 → Meets limits s now lent octets m → ⊥) → Registration f
in-a-registration = ofWrapsItself.in-a-registration
