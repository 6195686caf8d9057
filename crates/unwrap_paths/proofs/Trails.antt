-- Lists with one number behind them, in their order: the trail of a path is its Key IDs and the key that it ends on.
use native.Mathlib.Omega.{arith}
use Prim.Native.Nat.{ℕ, ◌≤◌}
use mathlib.Core.Path.{◌≡◌}
use mathlib.Core.Logic.{inl, inr}
use mathlib.Core.List.{List, [], ◌∷◌, ◌++◌}
use lib.ListN.{length}
use Rattle.rules_chains.specs.Path.{NotAfter}

pub front-order : (a b : List ℕ) (x y : ℕ) → length a ≡ length b → NotAfter (a ++ (x ∷ [])) (b ++ (y ∷ [])) → NotAfter a b
front-order [] b x y e h = tt
front-order (m ∷ a) [] x y e h = absurd (omega arith)
front-order (m ∷ a) (n ∷ b) x y e (inl h) = inl h
front-order (m ∷ a) (n ∷ b) x y e (inr h) = inr (h.0, front-order a b x y (omega arith) h.1)

pub last-order : (a : List ℕ) (x y : ℕ) → NotAfter (a ++ (x ∷ [])) (a ++ (y ∷ [])) → x ≤ y
last-order [] x y (inl h) = omega arith
last-order [] x y (inr h) = let e = h.0 in omega arith
last-order (m ∷ a) x y (inl h) = absurd (omega arith)
last-order (m ∷ a) x y (inr h) = last-order a x y h.1
