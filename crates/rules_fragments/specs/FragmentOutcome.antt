-- THE OUTCOME OF A FRAGMENT: for every state, tick, collection, fragment and room the answer, the next state, the next collection and the
-- room afterwards. Document 02, T-12.
use Rattle.std.specs.Prelude.{ℕ, ◌<◌, ◌≡◌, true, false, ◌⊎◌, List, [], ◌∷◌}
use Rattle.octets.specs.Numbers.{oct}
use Rattle.ikev2_numbers.specs.Codes.{flags_at, most_octets, version_at}
use Rattle.state_keys.specs.Limits.{Limits}
use Rattle.wire_frames.specs.Header.{header_of}
use Rattle.wire_frames.specs.Frame.{figure}
use Rattle.state.specs.declared.State.{State}
use Rattle.rules_refusals.specs.Refusals.{applies, number3}
use Rattle.gcm.specs.Opening.{put_at_start}
use Rattle.rfc5282.specs.Number10.{UnopenedFragment, OpensFragmentInto}
use Rattle.rfc5282.specs.OuterFragment.{IsFragment, number_in, total_in, next_in}
use Rattle.fragments.specs.declared.Case.TheVariants.{PassedOver}
use Rattle.fragments.specs.declared.Names.{Names}
use Rattle.fragments.specs.declared.Collection.{Collection}
use Rattle.fragments.specs.Collection.{Waiting, most_fragments, frame_size, collection_of, empty_collection, counted}
use Rattle.fragments.specs.Gathering.{case_of, gathered, is_complete, whole}
use Rattle.rules_outcome.specs.Outcome.{Outcome}
use Rattle.rules_sealed.specs.SealingKey.{sealing_part}
use Rattle.rules_sealed.specs.SealedOutcome.{sealed_number2}

-- "Passed over, waiting and complete are answers, not refusals": a refusal has its number and an offset, a complete frame those that
-- `receive` answers
pub data FragmentAnswer : Type 0 where
  refused : (number offset : ℕ) → FragmentAnswer
  passed_over : FragmentAnswer
  waiting : FragmentAnswer
  complete : (number offset : ℕ) → FragmentAnswer

-- how far a fragment comes
pub data Turn : Type 0 where
  refuses : ℕ → Turn
  passes_over : Turn
  waits : Turn
  completes : Turn

-- a row of the judging order: a turn with its condition
pub record TurnRow : Type 1 where
  pub turn : Turn
  pub holds : Type 0

-- `t` is the turn of the first row that holds
abbrev pub FirstTurn : List TurnRow → Turn → Type 0
FirstTurn [] t = ⊥
FirstTurn (r ∷ l) t = (r.holds × (t ≡ r.turn)) ⊎ ((r.holds → ⊥) × FirstTurn l t)

-- what a fragment says of itself
abbrev pub names_in : List ℕ → Names
names_in s =
    record {
      spis = (header_of s).spi;
      id = (header_of s).message_id;
      number = number_in s;
      total = total_in s;
      version = oct s version_at;
      flags = oct s flags_at;
      next = next_in s;
    }

module _ (limits : Limits) (s : State) (now : ℕ) (c : Collection) (octets room : List ℕ) where
  -- what would wait with the fragment's piece
  abbrev pub gathered_with : List ℕ → Waiting
  gathered_with piece = gathered (counted c) (names_in octets) piece

  -- a condition on the piece that the fragment opens to
  pub record OfPiece (P : List ℕ → Type 0) : Type 0 where
    pub piece : List ℕ
    pub opens : OpensFragmentInto (sealing_part limits s) octets room piece
    pub meets : P piece

  -- "Judging goes 1, T-05's 2, 10, 3, a total over 32 (7), passed over, then an opened frame over 16,384 octets so far (7)."
  abbrev pub judging_rows : List TurnRow
  judging_rows =
      record { turn = refuses 1; holds = IsFragment octets → ⊥ }
      ∷ record { turn = refuses 2; holds = applies (sealed_number2 limits s now (header_of octets)) ≡ true }
      ∷ record { turn = refuses 10; holds = UnopenedFragment (sealing_part limits s) octets room }
      ∷ record { turn = refuses 3; holds = applies (number3 s (header_of octets).exchange (header_of octets).message_id) ≡ true }
      ∷ record { turn = refuses 7; holds = most_fragments < total_in octets }
      ∷ record { turn = passes_over; holds = case_of (counted c) (names_in octets) ≡ PassedOver }
      ∷ record { turn = refuses 7; holds = OfPiece (λ (p : List ℕ). most_octets < frame_size (gathered_with p).kept) }
      ∷ record { turn = waits; holds = OfPiece (λ (p : List ℕ). is_complete (gathered_with p) ≡ false) }
      ∷ record { turn = completes; holds = OfPiece (λ (p : List ℕ). is_complete (gathered_with p) ≡ true) } ∷ []

  -- "A refused fragment leaves the collection as it was, and a complete frame empties it, whatever its answer. The complete frame must be
  -- answered as if it had come whole and opened, the room as in T-05, and until then member and room are unchanged." A refused fragment's
  -- offset is 0
  pub data FragmentOutcome : FragmentAnswer → State → Collection → List ℕ → Type 0 where
    is-refused : (n : ℕ) → FirstTurn judging_rows (refuses n) → FragmentOutcome (refused n 0) s c room
    is-passed-over : FirstTurn judging_rows passes_over → FragmentOutcome passed_over s c room
    is-waiting : (piece : List ℕ) → FirstTurn judging_rows waits → OpensFragmentInto (sealing_part limits s) octets room piece →
        FragmentOutcome waiting s (collection_of (gathered_with piece)) room
    is-complete : (piece : List ℕ) {n : ℕ} {next : State} → FirstTurn judging_rows completes →
        OpensFragmentInto (sealing_part limits s) octets room piece → Outcome limits s now [] (whole (gathered_with piece)) n next →
        FragmentOutcome (complete n (figure s.profile (whole (gathered_with piece)))) next empty_collection
        (put_at_start (whole (gathered_with piece)) room)
