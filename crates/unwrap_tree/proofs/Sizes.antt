-- The least size of the value of a wrapped key.
use Prim.Native.Nat.{ℕ, ◌≤◌}
use mathlib.Core.Path.{◌≡◌}
use mathlib.Core.Bool.{true}
use borrow.Author.Tests.{leb-true}
use lib.Dec.{leb}
use Rattle.lists.proofs.Cases.{and_parts}
use Rattle.wire_attributes.specs.Place.{key_value_sized}

pub wrapped-least : (n : ℕ) → key_value_sized n ≡ true → 24 ≤ n
wrapped-least n e = leb-true 24 n (and_parts (leb 24 n) _ e).0
