-- What the code's tests say of the head of a policy or of a key bag.
use Prim.Native.Nat.{ℕ, ◌≤◌}
use mathlib.Core.Path.{◌≡◌}
use mathlib.Core.List.{List}
use mathlib.Core.Bool.{true, ◌&&◌}
use lib.ListN.{length}
use Rattle.lists.proofs.Cases.{and_parts}
use Rattle.octets.specs.Numbers.{oct}
use Rattle.octets.specs.Walk.{be16, sized}
use Rattle.octets.proofs.Numerals.{sized-is}
use Rattle.wire_policies.specs.Policy.{first_known, spi_sized, head_size, head_fits}

pub head-is : (s : List ℕ) → head_fits s ≡ true → (head_size s ≤ be16 s 2) × (be16 s 2 ≤ length s)
head-is s e = sized-is s (head_size s) (and_parts (sized (head_size s) s) (first_known (oct s 0) && spi_sized s) e).0
