-- Demand 1 for sealed frames: the ten refusals in judging order. "Where a request judges numbers out of rising order, "lower" in demand 1
-- and document 01 means judged earlier" (document 02, T-05). No contract cites this file.
use Rattle.std.specs.Prelude.{ℕ, ◌≡◌, List, [], ◌∷◌, ◌++◌, map}
use Rattle.state_keys.specs.Limits.{Limits}
use Rattle.wire_frames.specs.Frame.{figure}
use Rattle.state.specs.declared.State.{State}
use Rattle.gcm.specs.Opening.{put_at_start}
use Rattle.rfc5282.specs.Number10.{OpensInto}
use Rattle.rules_outcome.specs.Holding.{OverHeldOf}
use Rattle.rules_outcome.specs.Answer.{RefusalCase}
use Rattle.rules_outcome.specs.Outcome.{NoTree, Outcome}
use Rattle.rules_outcome.specs.Judging.{SomeHolds, JudgedFirst}
use Rattle.rules_outcome.specs.Meets.{RefusalRow, refusal_rows, OfTree}
use Rattle.rules_sealed.specs.SealingKey.{sealing_part}
use Rattle.rules_sealed.specs.SealedOutcome.{sealed_conditions}

-- what is judged by a frame's tree, in its order: the table of document 01, behind it "Over 128 then is 7, judged after 9" (T-11). No key
-- is lent
abbrev pub all_rows : Limits → State → ℕ → List RefusalRow
all_rows limits s now = refusal_rows limits s now [] ++ (record { number = 7; meets = OverHeldOf limits s now [] } ∷ [])

module _ (limits : Limits) (s : State) (now : ℕ) (octets room : List ℕ) where
  -- a condition on the opened frame
  pub record OfOpened (P : List ℕ → Type 0) : Type 0 where
    pub opened : List ℕ
    pub opens : OpensInto (sealing_part limits s) octets room opened
    pub meets : P opened

  abbrev pub on_opened : RefusalRow → RefusalCase
  on_opened r = record { number = r.number; holds = OfOpened (λ (o : List ℕ). OfTree s.profile o r.meets) }

  -- "Number 1 is judged .. then, after 10, on what was opened", and so are the others
  abbrev pub opened_conditions : List RefusalCase
  opened_conditions = record { number = 1; holds = OfOpened (NoTree s.profile) } ∷ map on_opened (all_rows limits s now)

  -- THE TABLE FOR SEALED FRAMES: outer 1, 2, 10, inner 1, 3, 4, .. 9, and the 7 that is judged after 9 (number 2 stands among those of the
  -- opened frame too, and cannot apply there: `two-not-again`)
  abbrev pub sealed_order : List RefusalCase
  sealed_order = sealed_conditions limits s now octets room ++ opened_conditions

  -- offset and room of an answer: as lent where outer 1, 2 or 10 holds, else written
  pub data RoomAfter (offset : ℕ) (after : List ℕ) : Type 0 where
    room-as-lent : (m : ℕ) → SomeHolds (sealed_conditions limits s now octets room) m → offset ≡ 0 → after ≡ room → RoomAfter offset after
    room-written : ((m : ℕ) → SomeHolds (sealed_conditions limits s now octets room) m → ⊥) → (o : List ℕ) →
        OpensInto (sealing_part limits s) octets room o → offset ≡ figure s.profile o → after ≡ put_at_start o room → RoomAfter offset after

  -- refused: the first condition of the table that holds has this number; "a refusal changes nothing in the member"
  pub record SealedRefused (n offset : ℕ) (next : State) (after : List ℕ) : Type 1 where
    pub judged : JudgedFirst sealed_order n
    pub stays : next ≡ s
    pub room_after : RoomAfter offset after

  -- accepted: none holds, the opened frame is accepted and stands in the room
  pub record SealedAccepted (offset : ℕ) (next : State) (after : List ℕ) : Type 0 where
    pub none : (m : ℕ) → SomeHolds sealed_order m → ⊥
    pub opened : List ℕ
    pub opens : OpensInto (sealing_part limits s) octets room opened
    pub outcome : Outcome limits s now [] opened 0 next
    pub offset-is : offset ≡ 0
    pub room-is : after ≡ put_at_start opened room
