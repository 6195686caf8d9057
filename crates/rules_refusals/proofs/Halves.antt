-- THE TWO HALVES OF EVERY NUMBER: what a frame is refused for on account of the frame and the lent key alone, and on account of the member.
-- Document 02, T-08: "the lists whose frame the member below would refuse for a reason outside its own state, by that number"; a member
-- "for which numbers 2, 3, 6 and 7 do not refuse on account of its own state".
use Prim.Native.Nat.{ℕ}
use mathlib.Core.Path.{◌≡◌, refl, ap, sym, ◌∙◌}
use mathlib.Core.List.{List, [], ◌∷◌, map}
use mathlib.Core.Bool.{Bool, true, false, not, cond, ◌||◌}
use borrow.Author.Tests.{not-true}
use Rattle.lists.specs.Lists.{all}
use Rattle.state_keys.specs.Limits.{Limits}
use Rattle.lists.proofs.Cases.{and_parts}
use Rattle.state.specs.declared.State.{State}
use Rattle.wire_frames.specs.Frame.{Frame}
use Rattle.rules_refusals.specs.Refusals.{Number, one, judged, number4, number5, numbers, refusal}

-- a number by its clauses on the frame and the lent key alone
abbrev pub frame_half : Number → Number
frame_half n = record { number = n.number; of_frame = n.of_frame; of_member = [] }

-- no clause on the member applies
abbrev pub spares_member : Number → Bool
spares_member n = not (one n.of_member)

judged-half : (l : List Number) → all spares_member l ≡ true → judged l ≡ judged (map frame_half l)
unfolding judged one all
judged-half [] e = refl
judged-half (n ∷ l) e =
    let p = and_parts (spares_member n) (all spares_member l) e in
    rw (not-true (one n.of_member) p.0) (ap (cond (one n.of_frame || false) n.number) (judged-half l p.1))

module _ (limits : Limits) (s t : State) (now tick : ℕ) (f : Frame) where
  -- THE FRAME'S HALF is one for all members and ticks
  pub outside-state : (lent : List ℕ) → map frame_half (numbers limits s now lent f) ≡ map frame_half (numbers limits t tick lent f)
  outside-state lent = refl

  -- THE MEMBER'S HALF does not read the lent key
  pub own-state : (lent other : List ℕ) →
      map (λ (n : Number). n.of_member) (numbers limits s now lent f) ≡ map (λ (n : Number). n.of_member) (numbers limits s now other f)
  own-state lent other = refl

  -- "numbers 2, 3, 6 and 7": 4 and 5 have no clause on the member
  pub never-of-member : (lent : List ℕ) → ((number4 f).of_member ≡ []) × ((number5 lent f).of_member ≡ [])
  never-of-member lent = (refl, refl)

  -- SO ALL MEMBERS that do not refuse on account of their own state give a frame one number
  pub one-for-all : (lent : List ℕ) → all spares_member (numbers limits s now lent f) ≡ true →
      all spares_member (numbers limits t tick lent f) ≡ true → refusal limits s now lent f ≡ refusal limits t tick lent f
  unfolding refusal
  one-for-all lent a b =
      judged-half (numbers limits s now lent f) a ∙ ap judged (outside-state lent) ∙ sym (judged-half (numbers limits t tick lent f) b)
