-- RUNS in which rekeys come in pieces too: the steps of T-05's `SealedRun`, and a fragment. No contract cites this file.
use Rattle.std.specs.Prelude.{ℕ, ◌≡◌, false, List, [], ◌∷◌}
use Rattle.state_keys.specs.Limits.{Limits}
use Rattle.wire_frames.specs.Frame.{Frame}
use Rattle.wire_frames.specs.Grammar.{IsFrame}
use Rattle.wire_frames.specs.Header.{header_of}
use Rattle.ikev2_numbers.specs.Codes.{gsa_rekey}
use Rattle.state.specs.declared.State.{State}
use Rattle.rfc5282.specs.Number10.{OpensInto, OpensFragmentInto}
use Rattle.fragments.specs.declared.Collection.{Collection}
use Rattle.fragments.specs.Collection.{empty_collection}
use Rattle.fragments.specs.Gathering.{whole}
use Rattle.rules_outcome.specs.Holding.{new_rekey}
use Rattle.rules_outcome.specs.Outcome.{Outcome}
use Rattle.rules_sealed.specs.SealingKey.{sealing_part}
use Rattle.rules_sealed.specs.SealedOutcome.{SealedOutcome}
use Rattle.rules_sealed.specs.SealedRun.{SealedEvent, SealedTakes, SealedQuiet}
use Rattle.rules_fragments.specs.FragmentOutcome.{FragmentAnswer, complete, gathered_with, FragmentOutcome}

-- a step as it was, or a fragment's octets with the collection, the room and the tick
pub data FragmentEvent : Type 0 where
  as-sealed : SealedEvent → FragmentEvent
  handed-fragment : (c : Collection) (octets room : List ℕ) (now : ℕ) → FragmentEvent

module _ (limits : Limits) where
  -- the collection handed in may be any: what holds of the members holds whatever a caller does with collections
  pub data FragmentTakes (s : State) : FragmentEvent → State → Type 0 where
    takes-sealed : {x : SealedEvent} {next : State} → SealedTakes limits s x next → FragmentTakes s (as-sealed x) next
    answered-fragment : (c : Collection) (octets room : List ℕ) (now : ℕ) (a : FragmentAnswer) {next : State} {kept : Collection}
        {after : List ℕ} → FragmentOutcome limits s now c octets room a next kept after →
        FragmentTakes s (handed-fragment c octets room now) next

  pub data FragmentRun : State → List FragmentEvent → State → Type 0 where
    fragment-run-ends : (s : State) → FragmentRun s [] s
    fragment-run-goes : (s : State) {m e : State} {x : FragmentEvent} {l : List FragmentEvent} → FragmentTakes s x m → FragmentRun m l e →
        FragmentRun s (x ∷ l) e

  -- `P` holds of each state of the run, the first and the last included
  abbrev pub FragmentThroughout : (State → Type 0) → {s e : State} {l : List FragmentEvent} → FragmentRun s l e → Type 0
  FragmentThroughout P (fragment-run-ends s) = P s
  FragmentThroughout P (fragment-run-goes s t r) = P s × FragmentThroughout P r

  -- a complete frame that is accepted brings no Rekey SA
  abbrev pub BringsNone : (s : State) (now : ℕ) (c : Collection) (octets room : List ℕ) (a : FragmentAnswer) → Type 0
  BringsNone s now c octets room a =
      (f : Frame) (piece : List ℕ) (offset : ℕ) → OpensFragmentInto (sealing_part limits s) octets room piece →
      IsFrame s.profile (whole (gathered_with limits s now c octets room piece)) f → a ≡ complete 0 offset → new_rekey f ≡ false

  -- the step is not leaving, and not an accepted frame, opened, sealed or in pieces, with a new Rekey SA
  abbrev pub FragmentQuiet : {s e : State} {x : FragmentEvent} → FragmentTakes s x e → Type 0
  FragmentQuiet (takes-sealed t) = SealedQuiet limits t
  FragmentQuiet {s = s} (answered-fragment c octets room now a o) = BringsNone s now c octets room a

  -- each step of the run is quiet
  abbrev pub FragmentAllQuiet : {s e : State} {l : List FragmentEvent} → FragmentRun s l e → Type 0
  FragmentAllQuiet (fragment-run-ends s) = Unit {0}
  FragmentAllQuiet (fragment-run-goes s t r) = FragmentQuiet t × FragmentAllQuiet r

  -- ---- a rekey of this Message ID is accepted, in whichever way it comes
  pub data AcceptsRekey (s : State) (id : ℕ) (next : State) : Type 0 where
    as-opened : (now : ℕ) (lent octets : List ℕ) → (header_of octets).exchange ≡ gsa_rekey → (header_of octets).message_id ≡ id →
        Outcome limits s now lent octets 0 next → AcceptsRekey s id next
    as-sealed-frame : (now : ℕ) (octets room : List ℕ) (offset : ℕ) (after : List ℕ) → (header_of octets).message_id ≡ id →
        SealedOutcome limits s now octets room 0 offset next after → AcceptsRekey s id next
    in_pieces : (now : ℕ) (c : Collection) (octets room : List ℕ) (offset : ℕ) (kept : Collection) (after : List ℕ) →
        (header_of octets).message_id ≡ id → FragmentOutcome limits s now c octets room (complete 0 offset) next kept after →
        AcceptsRekey s id next

  -- it announces no Rekey SA
  abbrev pub AnnouncesNone : {s : State} {id : ℕ} {next : State} → AcceptsRekey s id next → Type 0
  AnnouncesNone {s = s} (as-opened now lent octets e i o) = (f : Frame) → IsFrame s.profile octets f → new_rekey f ≡ false
  AnnouncesNone {s = s} (as-sealed-frame now octets room offset after i o) =
      (f : Frame) (opened : List ℕ) → OpensInto (sealing_part limits s) octets room opened → IsFrame s.profile opened f →
      new_rekey f ≡ false
  AnnouncesNone {s = s} (in_pieces now c octets room offset kept after i o) =
      BringsNone s now c octets room (complete 0 offset)

  -- ---- a run that carries the collection on: each fragment meets the collection that the one before it left. Other calls know of no
  -- collection, and the caller may begin anew with the empty one
  pub data CarriedRun : State → Collection → State → Collection → Type 0 where
    carried-ends : (s : State) (c : Collection) → CarriedRun s c s c
    carries : (s : State) (c : Collection) {m e : State} {d : Collection} {x : SealedEvent} → SealedTakes limits s x m →
        CarriedRun m c e d → CarriedRun s c e d
    collects : (s : State) (c : Collection) {m e : State} {k d : Collection} (octets room : List ℕ) (now : ℕ) (a : FragmentAnswer)
        {after : List ℕ} → FragmentOutcome limits s now c octets room a m k after → CarriedRun m k e d → CarriedRun s c e d
    empties : (s : State) (c : Collection) {e : State} {d : Collection} → CarriedRun s empty_collection e d → CarriedRun s c e d

  -- `P` holds of each collection of the run
  abbrev pub CarriedThroughout : (Collection → Type 0) → {s e : State} {c d : Collection} → CarriedRun s c e d → Type 0
  CarriedThroughout P (carried-ends s c) = P c
  CarriedThroughout P (carries s c t r) = P c × CarriedThroughout P r
  CarriedThroughout P (collects s c octets room now a o r) = P c × CarriedThroughout P r
  CarriedThroughout P (empties s c r) = P c × CarriedThroughout P r
