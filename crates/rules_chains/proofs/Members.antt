-- Standing in a list at some place is being a member of it.
use native.Mathlib.Omega.{arith}
use Prim.Native.Nat.{ℕ, zero, suc, ◌<◌}
use mathlib.Core.Path.{◌≡◌, sym}
use mathlib.Core.List.{List, [], ◌∷◌, Memᴰ}
use lib.ListN.{length, get_or}
use Rattle.rules_chains.specs.Chain.{In}

module _ {A : Type 0} (a : A) where
  at_place : (l : List A) (i : ℕ) → i < length l → get_or l i a ≡ a → Memᴰ a l
  at_place [] i h e = absurd (omega arith)
  at_place (b ∷ l) zero h e = Memᴰ.head (sym e)
  at_place (b ∷ l) (suc i) h e = Memᴰ.tail (at_place l i (omega arith) e)

  pub in-member : (l : List A) → In a l → Memᴰ a l
  in-member l h = at_place l h.place h.inside h.is

  in_tail : (b : A) (l : List A) → In a l → In a (b ∷ l)
  in_tail b l h = record { place = suc h.place; inside = let g = h.inside in omega arith; is = h.is }

  pub member-in : (l : List A) → Memᴰ a l → In a l
  member-in _ (Memᴰ.head {x} {xs} e) = record { place = 0; inside = omega arith; is = sym e }
  member-in _ (Memᴰ.tail {x} {xs} m) = in_tail x xs (member-in xs m)
