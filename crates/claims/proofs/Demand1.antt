-- The theorems that docs/CLAIMS.md cites under "Demand 1".
use Prim.Native.Nat.{ℕ, ◌≤◌, suc, ◌<◌}
use mathlib.Core.Bool.{true}
use mathlib.Core.List.{List}
use mathlib.Core.Logic.{◌↔◌, ◌⊎◌}
use mathlib.Core.Path.{◌≡◌}
use Rattle.state_keys.specs.Limits.{Limits}
use Rattle.state.specs.declared.State.{State}
use Rattle.rules_outcome.specs.Demands.{Demand, Claims}
use Rattle.rules_outcome.specs.Judging.{SomeHolds, JudgedFirst, above}
use Rattle.rules_outcome.specs.Meets.{OfTree, table_rows, judging_order, Meets, Refused, Accepted}
use Rattle.rules_outcome.specs.Holding.{OverHeldOf}
use Rattle.rules_outcome.specs.Outcome.{Outcome}
use Rattle.rules_outcome.proofs.DemandsHold as ofDemandsHold
use Rattle.rules_outcome.proofs.EachAnswered as ofEachAnswered
use Rattle.rules_outcome.proofs.Demands as ofDemands
use Rattle.rules_outcome.proofs.Meets as ofMeets

pub demands-hold : (d : Demand) → Claims d
demands-hold = ofDemandsHold.demands-hold

pub each-answered : (limits : Limits) (s : State) (now : ℕ) (lent octets : List ℕ)
    (none : (n : ℕ) (next : State) → Outcome limits s now lent octets n next → ⊥) → ⊥
each-answered = ofEachAnswered.each-answered

pub one-of-the-numbers : (limits : Limits) (s : State) (now : ℕ) (lent octets : List ℕ) (n : ℕ) (next : State) →
    Outcome limits s now lent octets n next → n ≤ 9
one-of-the-numbers = ofDemands.one-of-the-numbers

pub refused-first : (limits : Limits) (s : State) (now : ℕ) (lent octets : List ℕ) (n : ℕ) (next : State) →
    Outcome limits s now lent octets (suc n) next ↔ (JudgedFirst (judging_order limits s now lent octets) (suc n) × (next ≡ s))
refused-first = ofMeets.refused-first

pub rows-rise : (limits : Limits) (s : State) (now : ℕ) (lent octets : List ℕ) → above 0 (table_rows limits s now lent octets) ≡ true
rows-rise = ofMeets.rows-rise

pub number7-exactly : (limits : Limits) (s : State) (now : ℕ) (lent octets : List ℕ) (next : State) →
    Outcome limits s now lent octets 7 next
    ↔ (((Meets limits s now lent octets 7 × ((m : ℕ) → m < 7 → Meets limits s now lent octets m → ⊥))
    ⊎ (OfTree s.profile octets (OverHeldOf limits s now lent) × ((m : ℕ) → Meets limits s now lent octets m → ⊥))) × (next ≡ s))
number7-exactly = ofDemands.number7-exactly

pub refused-exactly : (limits : Limits) (s : State) (now : ℕ) (lent octets : List ℕ) (n : ℕ) (next : State) →
    Outcome limits s now lent octets (suc n) next ↔ Refused limits s now lent octets (suc n) next
refused-exactly = ofDemands.refused-exactly

pub accepted-exactly : (limits : Limits) (s : State) (now : ℕ) (lent octets : List ℕ) (next : State) →
    Outcome limits s now lent octets 0 next ↔ Accepted limits s now lent octets next
accepted-exactly = ofDemands.accepted-exactly

pub zero-due : (limits : Limits) (s : State) (now : ℕ) (lent octets : List ℕ) (n : ℕ) (next : State) →
    Outcome limits s now lent octets n next → ((m : ℕ) → SomeHolds (judging_order limits s now lent octets) m → ⊥) → n ≡ 0
zero-due = ofDemands.zero-due

pub refusal-keeps : (limits : Limits) (s : State) (now : ℕ) (lent octets : List ℕ) (n : ℕ) (next : State) →
    Outcome limits s now lent octets n next → (n ≡ 0 → ⊥) → next ≡ s
refusal-keeps = ofDemands.refusal-keeps
