-- Demand 1 for fragments: each answer by the place of its condition in judging order. Number 7 stands at two places, before "passed over"
-- and behind it. No contract cites this file.
use Rattle.std.specs.Prelude.{ℕ, ◌≡◌, ◌⊎◌, List, [], ◌∷◌, ◌++◌}
use Rattle.state_keys.specs.Limits.{Limits}
use Rattle.wire_frames.specs.Frame.{figure}
use Rattle.state.specs.declared.State.{State}
use Rattle.gcm.specs.Opening.{put_at_start}
use Rattle.rfc5282.specs.Number10.{OpensFragmentInto}
use Rattle.fragments.specs.declared.Collection.{Collection}
use Rattle.fragments.specs.Collection.{collection_of, empty_collection}
use Rattle.fragments.specs.Gathering.{whole}
use Rattle.rules_outcome.specs.Outcome.{Outcome}
use Rattle.rules_sealed.specs.SealingKey.{sealing_part}
use Rattle.rules_fragments.specs.FragmentOutcome.{Turn, refuses, passes_over, waits, completes, TurnRow, gathered_with}
use Rattle.rules_fragments.specs.FragmentOutcome.{judging_rows}

-- some row of the list holds
abbrev pub AnyHolds : List TurnRow → Type 0
AnyHolds [] = ⊥
AnyHolds (r ∷ l) = r.holds ⊎ AnyHolds l

-- "each exactly when its condition holds and no lower one does", where ""lower" in demand 1 and document 01 means judged earlier" (document
-- 02, T-05): the row at some place of the list has this turn and holds, and none at an earlier place does
pub record JudgedTurn (l : List TurnRow) (t : Turn) : Type 1 where
  pub earlier : List TurnRow
  pub it : TurnRow
  pub later : List TurnRow
  pub all : l ≡ earlier ++ (it ∷ later)
  pub turn : t ≡ it.turn
  pub holds : it.holds
  pub none : AnyHolds earlier → ⊥

module _ (limits : Limits) (s : State) (now : ℕ) (c : Collection) (octets room : List ℕ) where
  -- member, collection and room are as they were
  pub record AllStays (next : State) (kept : Collection) (after : List ℕ) : Type 0 where
    pub member : next ≡ s
    pub collection : kept ≡ c
    pub room-stays : after ≡ room

  -- refused: the first row that holds refuses with this number. "A refused fragment leaves the collection as it was". No offset but 0
  pub record FragmentRefused (n offset : ℕ) (next : State) (kept : Collection) (after : List ℕ) : Type 1 where
    pub judged : JudgedTurn (judging_rows limits s now c octets room) (refuses n)
    pub offset-is : offset ≡ 0
    pub stays : AllStays next kept after

  -- passed over: neither 1, 2, 10 or 3 nor a total over 32, and the collection passes it over, whatever its piece
  pub record FragmentPassed (next : State) (kept : Collection) (after : List ℕ) : Type 1 where
    pub judged : JudgedTurn (judging_rows limits s now c octets room) passes_over
    pub stays : AllStays next kept after

  -- waiting: "until then member and room are unchanged"; the collection is what waited, with the fragment's piece put to it
  pub record FragmentWaits (next : State) (kept : Collection) (after : List ℕ) : Type 1 where
    pub judged : JudgedTurn (judging_rows limits s now c octets room) waits
    pub piece : List ℕ
    pub opens : OpensFragmentInto (sealing_part limits s) octets room piece
    pub collection : kept ≡ collection_of (gathered_with limits s now c octets room piece)
    pub member : next ≡ s
    pub room-stays : after ≡ room

  -- the whole frame, with this one's piece
  abbrev pub whole_with : List ℕ → List ℕ
  whole_with piece = whole (gathered_with limits s now c octets room piece)

  -- complete: "The complete frame must be answered as if it had come whole and opened": number and member are those of `receive`, at this
  -- tick and whatever key is lent, the offset is the figure of the whole frame's layout; "the room as in T-05"; "a complete frame empties
  -- it, whatever its answer"
  pub record AnsweredWhole (n offset : ℕ) (next : State) (kept : Collection) (after : List ℕ) : Type 1 where
    pub judged : JudgedTurn (judging_rows limits s now c octets room) completes
    pub piece : List ℕ
    pub opens : OpensFragmentInto (sealing_part limits s) octets room piece
    pub outcome : (lent : List ℕ) → Outcome limits s now lent (whole_with piece) n next
    pub offset-is : offset ≡ figure s.profile (whole_with piece)
    pub room-is : after ≡ put_at_start (whole_with piece) room
    pub emptied : kept ≡ empty_collection
