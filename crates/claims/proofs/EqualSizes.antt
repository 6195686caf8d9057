-- The theorems that docs/CLAIMS.md cites under "Document 01: equal sizes, other meanings".
use Prim.Native.Nat.{ℕ}
use mathlib.Core.List.{List}
use mathlib.Core.Path.{◌≡◌}
use Rattle.wire_frames.specs.Frame.{Frame}
use Rattle.wire_frames.specs.Grammar.{IsFrame}
use Rattle.state_keys.specs.Kinds.{rekey_of}
use Rattle.state_keys.specs.Limits.{Limits}
use Rattle.state.specs.Held.{keys_of}
use Rattle.state.specs.declared.State.{State}
use Rattle.state.specs.declared.held.HeldKey.{HeldKey}
use Rattle.rules_chains.specs.Chain.{In}
use Rattle.rules_outcome.specs.NamedKey.{Registration, OfMemberBags}
use Rattle.rules_outcome.specs.Outcome.{Outcome}
use Rattle.rules_outcome.proofs.Demands as ofDemands
use Rattle.state_keys.proofs.Made as ofMade

pub held-of-member-bags : (limits : Limits) (s : State) (now : ℕ) (lent octets : List ℕ) (f : Frame) (e : IsFrame s.profile octets f)
    (next : State) → Outcome limits s now lent octets 0 next → Registration f → (k : HeldKey) → In k (keys_of next.held) →
    OfMemberBags lent f k
held-of-member-bags = ofDemands.held-of-member-bags

pub two-cuts : (x : List ℕ) → rekey_of x 20 24 ≡ rekey_of x 28 16 → ⊥
two-cuts = ofMade.two-cuts
