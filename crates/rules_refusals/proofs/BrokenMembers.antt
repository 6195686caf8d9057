-- "A member value that breaks this list is swept to itself and answers none to every question", and it is number 2 to every frame whose
-- layout is whole: for a value of each way to break it.
use Prim.Native.Nat.{ℕ}
use mathlib.Core.Path.{◌≡◌, refl, ap, ◌∙◌}
use mathlib.Core.Bool.{Bool, true, false, not, ◌||◌, or-true}
use mathlib.Core.List.{List, [], ◌∷◌, map}
use lib.ListN.{get_or, drop}
use Rattle.state_keys.specs.Limits.{Limits, limits}
use Rattle.state.specs.declared.State.{State}
use Rattle.state.specs.State.{state_formed}
use Rattle.state.proofs.BrokenValues.{broken_values, Formed, BrokenKept, broken-kept}
use Rattle.wire_frames.specs.Header.{Header}
use Rattle.wire_frames.specs.Frame.{Frame}
use Rattle.rules_refusals.specs.Number2.{number2_of_frame, number2_of_member}
use Rattle.rules_refusals.specs.Refusals.{one, judged, number2, applies, refusal}
use Rattle.rules_refusals.proofs.OneOf.{one_at}

-- number 2 applies, whatever the header says
pub two-applies : (limits : Limits) (s : State) (now : ℕ) (h : Header) → state_formed limits s ≡ false →
    applies (number2 limits s now h.exchange h.spi) ≡ true
two-applies limits s now h e =
    let of_frame = one (number2_of_frame h.exchange) in
    ap (λ (b : Bool). of_frame || b) (one_at 2 (number2_of_member limits s now h.exchange h.spi) (ap not e)) ∙ or-true of_frame

-- so every frame is refused by it
pub broken-refused : (limits : Limits) (s : State) → state_formed limits s ≡ false → (now : ℕ) (lent : List ℕ) (f : Frame) →
    refusal limits s now lent f ≡ 2
unfolding refusal judged
broken-refused limits s e now lent f = rw (two-applies limits s now f.header e) refl

each-refused : (l : List State) → Formed false l → (now : ℕ) (lent : List ℕ) (f : Frame) →
    map (λ (s : State). refusal limits s now lent f) l ≡ map (λ (s : State). 2) l
each-refused [] e now lent f = refl
each-refused (s ∷ l) e now lent f =
    let first = broken-refused limits s (ap (λ (m : List Bool). get_or m 0 true) e) now lent f in
    let rest = each-refused l (ap (λ (m : List Bool). drop 1 m) e) now lent f in
    λ i. first i ∷ rest i

pub record BrokenMembers (l : List State) : Type 0 where
  -- swept to itself at every tick, "none" to every question
  pub kept : BrokenKept l
  -- 2 to every frame, at every tick, with every lent key
  pub refused : (now : ℕ) (lent : List ℕ) (f : Frame) → map (λ (s : State). refusal limits s now lent f) l ≡ map (λ (s : State). 2) l

pub broken-members : BrokenMembers broken_values
broken-members = record { kept = broken-kept; refused = each-refused broken_values broken-kept.broken }
