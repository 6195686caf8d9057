-- The theorems that docs/CLAIMS.md cites under "Demand 2".
use mathlib.Core.Bool.{Bool}
use Prim.Native.Nat.{ℕ}
use mathlib.Core.List.{List, []}
use mathlib.Core.Path.{◌≡◌}
use Rattle.octets.specs.Octets.{Octets}
use Rattle.octets.specs.Walk.{whole}
use Rattle.fips197.specs.Key.{Key}
use Rattle.keywrap.specs.Answers.{OpenAnswers, WrapAnswers}
use Rattle.rfc5649.specs.Opens.{Opens}
use Rattle.std.specs.Prelude.{Option}
use Rattle.wire_frames.specs.Frame.{Frame, frame}
use Rattle.wire_frames.specs.Grammar.{IsFrame}
use Rattle.state_keys.specs.Limits.{Limits}
use Rattle.state.specs.declared.State.{State}
use Rattle.rules_outcome.specs.Outcome.{Outcome}
use Rattle.wire_frames.proofs.FrameGrammar as ofFrameGrammar
use Rattle.rules_outcome.proofs.Determined as ofDetermined
use Rattle.rfc5649.proofs.Determined as ofRfc5649Determined
use Rattle.keywrap.proofs.Determined as ofKeywrapDetermined

pub read-frame : (profile : Bool) (s : List ℕ) (x : Frame) (rest : List ℕ) → frame profile s ≡ whole x rest → IsFrame profile s x
read-frame = ofFrameGrammar.read-frame

pub frame-read : (profile : Bool) (s : List ℕ) (x : Frame) → IsFrame profile s x → frame profile s ≡ whole x []
frame-read = ofFrameGrammar.frame-read

pub one-tree : (profile : Bool) (s : List ℕ) (x y : Frame) → IsFrame profile s x → IsFrame profile s y → x ≡ y
one-tree = ofFrameGrammar.one-tree

pub outcome-one : (limits : Limits) (s : State) (now : ℕ) (lent : List ℕ) (octets : List ℕ) (n m : ℕ) (next after : State) →
    Outcome limits s now lent octets n next → Outcome limits s now lent octets m after → (n ≡ m) × (next ≡ after)
outcome-one = ofDetermined.outcome-one

pub opens_one : (key wrapped x y : List ℕ) → Key key → Opens key wrapped x → Opens key wrapped y → x ≡ y
opens_one = ofRfc5649Determined.opens_one

pub open-determined : (key wrapped room : List ℕ) → Octets key → (a b : Option ℕ) (r s : List ℕ) → OpenAnswers key wrapped room a r →
    OpenAnswers key wrapped room b s → (a ≡ b) × (r ≡ s)
open-determined = ofKeywrapDetermined.open-determined

pub wrap-determined : (key octets room : List ℕ) (a b : Option ℕ) (r s : List ℕ) → WrapAnswers key octets room a r →
    WrapAnswers key octets room b s → (a ≡ b) × (r ≡ s)
wrap-determined = ofKeywrapDetermined.wrap-determined
