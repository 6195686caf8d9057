-- The theorems that docs/CLAIMS.md cites under "Document 01: when a frame is turned away".
use Prim.Native.Nat.{ℕ, ◌≤◌}
use mathlib.Core.Bool.{Bool, true, false}
use mathlib.Core.List.{List, map, []}
use mathlib.Core.Logic.{◌↔◌}
use mathlib.Core.Path.{◌≡◌}
use Rattle.octets.specs.Walk.{broken, whole}
use Rattle.wire_frames.specs.Frame.{Frame, frame}
use Rattle.wire_frames.specs.Grammar.{IsFrame}
use Rattle.state_keys.specs.Limits.{Limits}
use Rattle.lists.specs.Lists.{all}
use Rattle.state.specs.declared.State.{State}
use Rattle.rules_refusals.proofs.Halves.{frame_half, spares_member}
use Rattle.rules_refusals.specs.Refusals.{numbers, Number, refusal}
use Rattle.rules_outcome.specs.Holding.{new_rekey}
use Rattle.rules_outcome.specs.KeyConflictSays.{KeyConflictSays}
use Rattle.rules_outcome.specs.Meets.{Meets}
use Rattle.rules_outcome.specs.Outcome.{Outcome, NoTree, Judged}
use Rattle.rules_outcome.specs.Run.{Event, Run, AllQuiet, Quiet, answered, swept}
use Rattle.rules_refusals.proofs.Halves as ofHalves
use Rattle.rules_outcome.proofs.Demands as ofDemands
use Rattle.rules_outcome.proofs.Readings as ofReadings
use Rattle.rules_outcome.proofs.RunsReplay as ofRunsReplay
use Rattle.rules_outcome.proofs.RunsQuiet as ofRunsQuiet
use Rattle.rules_outcome.proofs.KeyConflictSays as ofKeyConflictSays

pub outside-state : (limits : Limits) (s t : State) (now tick : ℕ) (f : Frame) (lent : List ℕ) →
    map frame_half (numbers limits s now lent f) ≡ map frame_half (numbers limits t tick lent f)
outside-state = ofHalves.outside-state

pub own-state : (limits : Limits) (s t : State) (now tick : ℕ) (f : Frame) (lent other : List ℕ) →
    map (λ (n : Number). n.of_member) (numbers limits s now lent f) ≡ map (λ (n : Number). n.of_member) (numbers limits s now other f)
own-state = ofHalves.own-state

pub one-for-all : (limits : Limits) (s t : State) (now tick : ℕ) (f : Frame) (lent : List ℕ) →
    all spares_member (numbers limits s now lent f) ≡ true → all spares_member (numbers limits t tick lent f) ≡ true →
    refusal limits s now lent f ≡ refusal limits t tick lent f
one-for-all = ofHalves.one-for-all

pub one-exactly : (limits : Limits) (s : State) (now : ℕ) (lent octets : List ℕ) (next : State) →
    Outcome limits s now lent octets 1 next ↔ (NoTree s.profile octets × (next ≡ s))
one-exactly = ofDemands.one-exactly

pub broken-none : (profile : Bool) (octets : List ℕ) (o : ℕ) → frame profile octets ≡ broken o → NoTree profile octets
broken-none = ofReadings.broken-none

pub none-broken : (profile : Bool) (octets : List ℕ) → NoTree profile octets → (o : ℕ) × (frame profile octets ≡ broken o)
none-broken = ofReadings.none-broken

pub outcome-broken : (limits : Limits) (s : State) (now : ℕ) (lent octets : List ℕ) (o : ℕ) → frame s.profile octets ≡ broken o →
    Outcome limits s now lent octets 1 s
outcome-broken = ofReadings.outcome-broken

pub outcome-read : (limits : Limits) (s : State) (now : ℕ) (lent octets : List ℕ) (f : Frame) → frame s.profile octets ≡ whole f [] →
    (n : ℕ) (next : State) → Judged limits s now lent f n next → Outcome limits s now lent octets n next
outcome-read = ofReadings.outcome-read

pub no-replay : (limits : Limits) (s₀ s₁ : State) (now : ℕ) (lent octets : List ℕ) (f : Frame) (e : IsFrame s₀.profile octets f)
    (x : f.header.exchange ≡ 41) (none : new_rekey f ≡ false) (o : Outcome limits s₀ now lent octets 0 s₁) (s₂ : State) (l : List Event)
    (r : Run limits s₁ l s₂) (quiet : AllQuiet limits r) (now' : ℕ) (lent' octets' : List ℕ) (g : Frame)
    (e' : IsFrame s₂.profile octets' g) (x' : g.header.exchange ≡ 41) (s₃ : State) → g.header.message_id ≤ f.header.message_id →
    Outcome limits s₂ now' lent' octets' 0 s₃ → ⊥
no-replay = ofRunsReplay.no-replay

pub none-any-more : (limits : Limits) (s₀ s₁ : State) (now : ℕ) (lent octets : List ℕ) (f : Frame) (e : IsFrame s₀.profile octets f)
    (x : f.header.exchange ≡ 41) (none : new_rekey f ≡ false) (o : Outcome limits s₀ now lent octets 0 s₁) (s₂ : State) (l : List Event)
    (r : Run limits s₁ l s₂) (quiet : AllQuiet limits r) (now' : ℕ) (lent' octets' : List ℕ) (g : Frame)
    (e' : IsFrame s₂.profile octets' g) (x' : g.header.exchange ≡ 41) (s₃ : State) → f.header.message_id ≡ 4294967295 →
    Outcome limits s₂ now' lent' octets' 0 s₃ → ⊥
none-any-more = ofRunsReplay.none-any-more

pub refused-quiet :
    (limits : Limits) (s : State) (octets lent : List ℕ) (now n : ℕ) (next : State) (o : Outcome limits s now lent octets n next) →
    (n ≡ 0 → ⊥) → Quiet limits (answered octets lent now n o)
refused-quiet = ofRunsQuiet.refused-quiet

pub without-rekey-quiet : (limits : Limits) (s : State) (octets lent : List ℕ) (now n : ℕ) (next : State)
    (o : Outcome limits s now lent octets n next) (f : Frame) → IsFrame s.profile octets f → new_rekey f ≡ false →
    Quiet limits (answered octets lent now n o)
without-rekey-quiet = ofRunsQuiet.without-rekey-quiet

pub sweep-quiet : (limits : Limits) (s : State) (now : ℕ) → Quiet limits {s = s} (swept now)
sweep-quiet = ofRunsQuiet.sweep-quiet

pub key-conflict-exactly : (limits : Limits) (s : State) (now : ℕ) (lent : List ℕ) (f : Frame) (octets : List ℕ)
    → IsFrame s.profile octets f →
    (Meets limits s now lent octets 2 → ⊥) → (Meets limits s now lent octets 4 → ⊥) →
    Meets limits s now lent octets 8 ↔ KeyConflictSays limits s now lent f
key-conflict-exactly = ofKeyConflictSays.key-conflict-exactly
