-- When the octets of a frame meet the condition of a number: document 01's table, row by row, in the order in which the rows are judged,
-- and behind it the one condition of document 02 that is judged out of rising order. No contract cites this file.
use Rattle.std.specs.Prelude.{ℕ, ◌<◌, ◌≡◌, Bool, true, List, [], ◌∷◌, ◌++◌, map}
use Rattle.state_keys.specs.Limits.{Limits}
use Rattle.wire_frames.specs.Frame.{Frame}
use Rattle.wire_frames.specs.Grammar.{IsFrame}
use Rattle.state.specs.declared.State.{State}
use Rattle.rules_refusals.specs.Refusals.{applies, number2, number3, number4, number5, number6, number7}
use Rattle.rules_outcome.specs.Answer.{RefusalCase, KeyConflictOf, KeyMissingOf}
use Rattle.rules_outcome.specs.Holding.{OverHeldOf}
use Rattle.rules_outcome.specs.After.{After}
use Rattle.rules_outcome.specs.Outcome.{NoTree}
use Rattle.rules_outcome.specs.Judging.{SomeHolds}

-- a row of the table that is judged by a frame's tree: its number, and which trees meet it
pub record RefusalRow : Type 1 where
  pub number : ℕ
  pub meets : Frame → Type 0

-- numbers 2 to 7 are met when one of their clauses applies, each with its words in rules_refusals/specs; 8: "a reached wrapping opens to a
-- wrong size, or two reached ones give one key two values"; 9: "some announced SA has no copy that opens"
abbrev pub refusal_rows : Limits → State → ℕ → List ℕ → List RefusalRow
refusal_rows limits s now lent =
    record { number = 2; meets = λ (f : Frame). applies (number2 limits s now f.header.exchange f.header.spi) ≡ true }
    ∷ record { number = 3; meets = λ (f : Frame). applies (number3 s f.header.exchange f.header.message_id) ≡ true }
    ∷ record { number = 4; meets = λ (f : Frame). applies (number4 f) ≡ true }
    ∷ record { number = 5; meets = λ (f : Frame). applies (number5 lent f) ≡ true }
    ∷ record { number = 6; meets = λ (f : Frame). applies (number6 s now f) ≡ true }
    ∷ record { number = 7; meets = λ (f : Frame). applies (number7 limits s now f) ≡ true }
    ∷ record { number = 8; meets = KeyConflictOf limits s now lent } ∷ record { number = 9; meets = KeyMissingOf limits s now lent }
    ∷ []

-- "The other numbers are judged on a frame whose layout is whole": by the tree that is laid out as the octets
pub record OfTree (profile : Bool) (octets : List ℕ) (P : Frame → Type 0) : Type 0 where
  pub tree : Frame
  pub layout : IsFrame profile octets tree
  pub meets : P tree

abbrev pub of_tree : Bool → List ℕ → RefusalRow → RefusalCase
of_tree profile octets r = record { number = r.number; holds = OfTree profile octets r.meets }

module _ (limits : Limits) (s : State) (now : ℕ) (lent octets : List ℕ) where
  -- THE TABLE OF DOCUMENT 01, of octets: numbers 1 to 9 in rising order
  abbrev pub table_rows : List RefusalCase
  table_rows = record { number = 1; holds = NoTree s.profile octets } ∷ map (of_tree s.profile octets) (refusal_rows limits s now lent)

  -- "Over 128 then is 7, judged after 9" (document 02, T-11)
  abbrev pub over_then : RefusalCase
  over_then = record { number = 7; holds = OfTree s.profile octets (OverHeldOf limits s now lent) }

  -- THE ORDER IN WHICH A FRAME IS JUDGED
  abbrev pub judging_order : List RefusalCase
  judging_order = table_rows ++ (over_then ∷ [])

  -- the octets meet the condition of number `n` in document 01's table
  pub record Meets (n : ℕ) : Type 0 where
    pub row : SomeHolds table_rows n

  -- number `n` is given, and the member stays as it was: it is met in the table and no lower one is, or none of the table is met and the
  -- held list would be over its limit
  pub data Refused (n : ℕ) (next : State) : Type 0 where
    lowest : Meets n → ((m : ℕ) → m < n → Meets m → ⊥) → next ≡ s → Refused n next
    over-then : n ≡ 7 → OfTree s.profile octets (OverHeldOf limits s now lent) → ((m : ℕ) → Meets m → ⊥) → next ≡ s → Refused n next

  -- no number is met, and the member becomes `next`
  pub record Accepted (next : State) : Type 0 where
    pub none : (m : ℕ) → Meets m → ⊥
    pub room : OfTree s.profile octets (OverHeldOf limits s now lent) → ⊥
    pub tree : Frame
    pub layout : IsFrame s.profile octets tree
    pub after : After limits s now lent tree next
