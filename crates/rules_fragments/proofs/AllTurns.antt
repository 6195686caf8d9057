-- The order in which a fragment is judged, computed: "Judging goes 1, T-05's 2, 10, 3, a total over 32 (7), passed over, then an opened
-- frame over 16,384 octets so far (7)."
use Prim.Native.Nat.{ℕ}
use mathlib.Core.Path.{◌≡◌, refl}
use mathlib.Core.List.{List, [], ◌∷◌}
use Rattle.state_keys.specs.Limits.{Limits}
use Rattle.state.specs.declared.State.{State}
use Rattle.fragments.specs.declared.Collection.{Collection}
use Rattle.rules_fragments.specs.FragmentOutcome.{Turn, refuses, passes_over, waits, completes, TurnRow, judging_rows}

abbrev turns_of : List TurnRow → List Turn
turns_of [] = []
turns_of (r ∷ l) = r.turn ∷ turns_of l

pub turns-are : (limits : Limits) (s : State) (now : ℕ) (c : Collection) (octets room : List ℕ) →
    turns_of (judging_rows limits s now c octets room)
    ≡ refuses 1 ∷ refuses 2 ∷ refuses 10 ∷ refuses 3 ∷ refuses 7 ∷ passes_over ∷ refuses 7 ∷ waits ∷ completes ∷ []
turns-are limits s now c octets room = refl
