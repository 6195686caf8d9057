-- "The lowest number that applies is given; each is judged only when the lower ones don't apply": the numbers in judging order, each with
-- its clauses in two halves.
use Rattle.std.specs.Prelude.{ℕ, List, [], ◌∷◌, ◌++◌, Bool, false, cond, ◌||◌}
use Rattle.state_keys.specs.Limits.{Limits}
use Rattle.state.specs.declared.State.{State}
use Rattle.wire_frames.specs.Header.{Header}
use Rattle.wire_frames.specs.Frame.{Frame}
use Rattle.rules_refusals.specs.Number2.{number2_of_frame, number2_of_member}
use Rattle.rules_refusals.specs.Number3.{number3_of_member}
use Rattle.rules_refusals.specs.Number4.{number4_of_frame}
use Rattle.rules_refusals.specs.Number5.{number5_of_frame}
use Rattle.rules_refusals.specs.Number6.{number6_of_frame, number6_of_member}
use Rattle.rules_refusals.specs.Number7.{number7_of_frame, number7_of_member}

-- a refusal number with its clauses
pub record Number : Type 0 where
  pub number : ℕ
  -- its clauses on the frame and the lent key alone: a list such as `number4_of_frame` has no member and no tick among its arguments
  pub of_frame : List Bool
  -- its clauses that look at the member or the tick
  pub of_member : List Bool

-- one of the clauses applies
unfoldable pub one : List Bool → Bool
one [] = false
one (b ∷ l) = b || one l

abbrev pub applies : Number → Bool
applies n = one n.of_frame || one n.of_member

-- the first number of the list that applies; 0 if none does
unfoldable pub judged : List Number → ℕ
judged [] = 0
judged (n ∷ l) = cond (applies n) n.number (judged l)

-- numbers 2 and 3, on fields of the header: the exchange type x, the SPIs, the Message ID
abbrev pub number2 : Limits → State → ℕ → ℕ → List ℕ → Number
number2 limits s now x spi = record { number = 2; of_frame = number2_of_frame x; of_member = number2_of_member limits s now x spi }

abbrev pub number3 : State → ℕ → ℕ → Number
number3 s x id = record { number = 3; of_frame = []; of_member = number3_of_member s x id }

-- numbers 4 to 7, on the frame
abbrev pub number4 : Frame → Number
number4 f = record { number = 4; of_frame = number4_of_frame f; of_member = [] }

abbrev pub number5 : List ℕ → Frame → Number
number5 lent f = record { number = 5; of_frame = number5_of_frame lent f; of_member = [] }

abbrev pub number6 : State → ℕ → Frame → Number
number6 s now f = record { number = 6; of_frame = number6_of_frame f; of_member = number6_of_member s now f }

abbrev pub number7 : Limits → State → ℕ → Frame → Number
number7 limits s now f = record { number = 7; of_frame = number7_of_frame limits f; of_member = number7_of_member limits s now f }

-- in judging order
abbrev pub on_header : Limits → State → ℕ → Header → List Number
on_header limits s now h = number2 limits s now h.exchange h.spi ∷ number3 s h.exchange h.message_id ∷ []

abbrev pub on_frame : Limits → State → ℕ → List ℕ → Frame → List Number
on_frame limits s now lent f = number4 f ∷ number5 lent f ∷ number6 s now f ∷ number7 limits s now f ∷ []

abbrev pub numbers : Limits → State → ℕ → List ℕ → Frame → List Number
numbers limits s now lent f = on_header limits s now f.header ++ on_frame limits s now lent f

-- THE FIRST OF NUMBERS 2 TO 7 THAT APPLIES, or 0
unfoldable pub refusal : Limits → State → ℕ → List ℕ → Frame → ℕ
refusal limits s now lent f = judged (numbers limits s now lent f)
