-- "The lowest number that applies is given; each is judged only when the lower ones don't apply": conditions with their numbers, in the
-- order in which they are judged. "Where a request judges numbers out of rising order, "lower" in demand 1 and document 01 means judged
-- earlier" (document 02, T-05).
use Rattle.std.specs.Prelude.{ℕ, ◌≡◌, true, ◌⊎◌, List, [], ◌∷◌, ◌++◌, map}
use Rattle.state_keys.specs.Limits.{Limits}
use Rattle.wire_frames.specs.Frame.{Frame}
use Rattle.state.specs.declared.State.{State}
use Rattle.rules_refusals.specs.Refusals.{Number, applies, numbers}
use Rattle.rules_chains.specs.Refusals.{KeyConflict, KeyMissing}
use Rattle.rules_outcome.specs.Roots.{roots_of, entries_of, wrapping_size, announced_keys}
use Rattle.rules_outcome.specs.Holding.{OverHeldOf}

-- a refusal number with its condition
pub record RefusalCase : Type 1 where
  pub number : ℕ
  pub holds : Type 0

-- `n` is the number of the first condition that holds, or 0 if none does
abbrev pub First : List RefusalCase → ℕ → Type 0
First [] n = n ≡ 0
First (c ∷ l) n = (c.holds × (n ≡ c.number)) ⊎ ((c.holds → ⊥) × First l n)

-- numbers 2 to 7, by their clauses
abbrev pub by_clauses : Number → RefusalCase
by_clauses n = record { number = n.number; holds = applies n ≡ true }

-- 8: "a reached wrapping opens to a wrong size, or two reached ones give one key two values"; 9: "some announced SA has no copy that opens"
abbrev pub KeyConflictOf : Limits → State → ℕ → List ℕ → Frame → Type 0
KeyConflictOf limits s now lent f =
    KeyConflict (roots_of limits s now lent f) (entries_of f) (wrapping_size limits s now lent f) (announced_keys f)

abbrev pub KeyMissingOf : Limits → State → ℕ → List ℕ → Frame → Type 0
KeyMissingOf limits s now lent f =
    KeyMissing (roots_of limits s now lent f) (entries_of f) (wrapping_size limits s now lent f) (announced_keys f)

-- behind these document 02's "Over 128 then is 7, judged after 9" (T-11)
abbrev pub conditions : Limits → State → ℕ → List ℕ → Frame → List RefusalCase
conditions limits s now lent f =
    map by_clauses (numbers limits s now lent f)
    ++ (record { number = 8; holds = KeyConflictOf limits s now lent f }
    ∷ record { number = 9; holds = KeyMissingOf limits s now lent f } ∷ record { number = 7; holds = OverHeldOf limits s now lent f } ∷ [])

-- THE ANSWER TO A FRAME WHOSE LAYOUT IS WHOLE
abbrev pub FrameAnswers : Limits → State → ℕ → List ℕ → Frame → ℕ → Type 0
FrameAnswers limits s now lent f n = First (conditions limits s now lent f) n
