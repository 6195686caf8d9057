-- Whether one of a list of clauses applies: one that does is enough, and lists may be joined and clauses moved.
use Prim.Native.Nat.{ℕ, zero, suc}
use mathlib.Core.Path.{◌≡◌, refl, ap, ◌∙◌}
use mathlib.Core.List.{List, [], ◌∷◌, ◌++◌}
use mathlib.Core.Bool.{Bool, true, false, false≢true, ◌||◌, or-true}
use lib.ListN.{get_or}
use Rattle.rules_refusals.specs.Refusals.{one}
use Rattle.rules_refusals.proofs.AnyOrder.{or_swap}

pub or-joined : (a b c : Bool) → (a || (b || c)) ≡ ((a || b) || c)
or-joined true b c = refl
or-joined false b c = refl

pub one_at : (i : ℕ) (l : List Bool) → get_or l i false ≡ true → one l ≡ true
unfolding one
one_at i [] e = absurd (false≢true e)
one_at zero (b ∷ l) e = ap (λ (x : Bool). x || one l) e
one_at (suc i) (b ∷ l) e = ap (λ (x : Bool). b || x) (one_at i l e) ∙ or-true b

pub one-append : (l m : List Bool) → one (l ++ m) ≡ (one l || one m)
unfolding one
one-append [] m = refl
one-append (b ∷ l) m = ap (λ (x : Bool). b || x) (one-append l m) ∙ or-joined b (one l) (one m)

-- a clause after some others, or before them
pub one_later : (b : Bool) (l m : List Bool) → one (l ++ (b ∷ m)) ≡ one (b ∷ (l ++ m))
unfolding one
one_later b [] m = refl
one_later b (a ∷ l) m = ap (λ (x : Bool). a || x) (one_later b l m) ∙ or_swap a b (one (l ++ m))
