-- The turn of the first row that holds: it is one, and it is given exactly when a row of it holds and none at an earlier place does.
use Prim.Native.Nat.{ℕ, ◌+◌}
use mathlib.Core.Path.{◌≡◌, refl, ap, sym, ◌∙◌, subst}
use mathlib.Core.Logic.{inl, inr, ⊎_elim, ◌↔◌}
use mathlib.Core.List.{List, [], ◌∷◌, ◌++◌}
use Rattle.rules_fragments.specs.FragmentOutcome.{Turn, refuses, passes_over, waits, completes, TurnRow, FirstTurn}
use Rattle.rules_fragments.specs.FragmentOrder.{AnyHolds, JudgedTurn}

-- turns are told apart by a number
abbrev pub place_of : Turn → ℕ
place_of passes_over = 0
place_of waits = 1
place_of completes = 2
place_of (refuses n) = n + 3

pub turn_one : (l : List TurnRow) (t u : Turn) → FirstTurn l t → FirstTurn l u → t ≡ u
turn_one [] t u p q = absurd p
turn_one (r ∷ l) t u (inl p) (inl q) = p.1 ∙ sym q.1
turn_one (r ∷ l) t u (inl p) (inr q) = absurd (q.0 p.0)
turn_one (r ∷ l) t u (inr p) (inl q) = absurd (p.0 q.0)
turn_one (r ∷ l) t u (inr p) (inr q) = turn_one l t u p.1 q.1

-- two firsts have one place
pub place-one : (l : List TurnRow) (t u : Turn) → FirstTurn l t → FirstTurn l u → place_of t ≡ place_of u
place-one l t u p q = ap place_of (turn_one l t u p q)

-- ---- by the order of judging
pub turn_at : (l : List TurnRow) (t : Turn) → FirstTurn l t → JudgedTurn l t
turn_at [] t p = absurd p
turn_at (r ∷ l) t (inl p) =
    record { earlier = []; it = r; later = l; all = refl; turn = p.1; holds = p.0; none = λ h. h }
turn_at (r ∷ l) t (inr p) =
    let q = turn_at l t p.1 in
    record {
      earlier = r ∷ q.earlier;
      it = q.it;
      later = q.later;
      all = ap (λ (x : List TurnRow). r ∷ x) q.all;
      turn = q.turn;
      holds = q.holds;
      none = λ h. ⊎_elim p.0 q.none h;
    }

behind-earlier : (l : List TurnRow) (r : TurnRow) (m : List TurnRow) → r.holds → (AnyHolds l → ⊥) → FirstTurn (l ++ (r ∷ m)) r.turn
behind-earlier [] r m h none = inl (h, refl)
behind-earlier (d ∷ l) r m h none = inr (λ x. none (inl x), behind-earlier l r m h (λ x. none (inr x)))

pub at_turn : (l : List TurnRow) (t : Turn) → JudgedTurn l t → FirstTurn l t
at_turn l t q =
    let p = behind-earlier q.earlier q.it q.later q.holds q.none in
    subst (λ (x : List TurnRow). FirstTurn x t) (sym q.all) (subst (FirstTurn (q.earlier ++ (q.it ∷ q.later))) (sym q.turn) p)

pub turn-exactly : (l : List TurnRow) (t : Turn) → FirstTurn l t ↔ JudgedTurn l t
turn-exactly l t = (turn_at l t, at_turn l t)

-- the first row that holds has this turn
pub some-row : (l : List TurnRow) (t : Turn) → FirstTurn l t → AnyHolds l
some-row [] t p = p
some-row (r ∷ l) t (inl p) = inl p.0
some-row (r ∷ l) t (inr p) = inr (some-row l t p.1)

-- where there is no first row, no row holds
pub none-holds : (l : List TurnRow) → ((t : Turn) → FirstTurn l t → ⊥) → AnyHolds l → ⊥
none-holds [] n h = h
none-holds (r ∷ l) n (inl h) = n r.turn (inl (h, refl))
none-holds (r ∷ l) n (inr h) = none-holds l (λ t f. n t (inr (λ x. n r.turn (inl (x, refl)), f))) h
