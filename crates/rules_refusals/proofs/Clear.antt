-- A number that does not apply: none of its clauses does.
use Prim.Native.Nat.{ℕ, zero, suc}
use mathlib.Core.Path.{◌≡◌, refl}
use mathlib.Core.Bool.{Bool, false}
use mathlib.Core.List.{List, [], ◌∷◌}
use lib.ListN.{get_or}
use Rattle.lists.proofs.Cases.{or-none}
use Rattle.rules_refusals.specs.Refusals.{Number, one, applies}

-- where no clause applies, the one at a place of the list does not
pub no-clause : (l : List Bool) (k : ℕ) → one l ≡ false → get_or l k false ≡ false
unfolding one
no-clause [] k e = refl
no-clause (b ∷ l) zero e = (or-none b (one l) e).0
no-clause (b ∷ l) (suc k) e = no-clause l k (or-none b (one l) e).1

-- the clause at a place of a number's list on the frame
pub clause-of-frame : (n : Number) (k : ℕ) → applies n ≡ false → get_or n.of_frame k false ≡ false
clause-of-frame n k e = no-clause n.of_frame k (or-none (one n.of_frame) (one n.of_member) e).0
