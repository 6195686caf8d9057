-- A RUN of a member: frames are handed to it, it is swept, it leaves. "Registering, rekeying, sweeping and leaving each take the member as
-- it was and give back the next."
use Rattle.std.specs.Prelude.{ℕ, ◌≡◌, true, false, List, [], ◌∷◌}
use Rattle.state_keys.specs.Limits.{Limits}
use Rattle.lists.specs.Lists.{any}
use Rattle.wire_frames.specs.Frame.{Frame}
use Rattle.wire_frames.specs.Grammar.{IsFrame}
use Rattle.state_table.specs.Table.{sas_of}
use Rattle.state.specs.declared.State.{State}
use Rattle.state.specs.State.{left_state, swept_state}
use Rattle.rules_refusals.specs.Number2.{not_due_sas, over_live_rekey}
use Rattle.rules_outcome.specs.Holding.{new_rekey}
use Rattle.rules_outcome.specs.Outcome.{Outcome}

-- a frame's octets with the lent default key and the tick, a sweep at a tick, leaving
pub data Event : Type 0 where
  handed : (octets lent : List ℕ) (now : ℕ) → Event
  sweep : (now : ℕ) → Event
  leave : Event

module _ (limits : Limits) where
  -- one step: a frame has its outcome, with the answer's number `n`; "Leaving gives the new member", and "keeps the profile" (T-11)
  pub data Takes (s : State) : Event → State → Type 0 where
    answered : (octets lent : List ℕ) (now n : ℕ) {next : State} → Outcome limits s now lent octets n next →
        Takes s (handed octets lent now) next
    swept : (now : ℕ) → Takes s (sweep now) (swept_state limits now s)
    left : Takes s leave (left_state limits s)

  pub data Run : State → List Event → State → Type 0 where
    ends : (s : State) → Run s [] s
    goes : (s : State) {m e : State} {x : Event} {l : List Event} → Takes s x m → Run m l e → Run s (x ∷ l) e

  -- `P` holds of each state of the run, the first and the last included
  abbrev pub Throughout : (State → Type 0) → {s e : State} {l : List Event} → Run s l e → Type 0
  Throughout P (ends s) = P s
  Throughout P (goes s t r) = P s × Throughout P r

  -- the step is not leaving, and not an accepted frame with a new Rekey SA
  abbrev pub Quiet : {s e : State} {x : Event} → Takes s x e → Type 0
  Quiet {s} (answered octets lent now n o) = (f : Frame) → IsFrame s.profile octets f → n ≡ 0 → new_rekey f ≡ false
  Quiet {s} (swept now) = Unit {0}
  Quiet {s} left = ⊥

  -- each step of the run is quiet
  abbrev pub AllQuiet : {s e : State} {l : List Event} → Run s l e → Type 0
  AllQuiet (ends s) = Unit {0}
  AllQuiet (goes s t r) = Quiet t × AllQuiet r

-- the Rekey SA with this SPI is live
abbrev pub LiveRekey : List ℕ → State → Type 0
LiveRekey spi s = any (over_live_rekey spi) (sas_of s.table) ≡ true

-- the Rekey SA with this SPI stands at the tick: it is live, and not due then. Number 2 asks for it ("rekey whose two SPIs are not the live
-- Rekey SA's", where SAs that are due count no more)
abbrev pub StandsAt : ℕ → List ℕ → State → Type 0
StandsAt now spi s = any (over_live_rekey spi) (not_due_sas now s) ≡ true
