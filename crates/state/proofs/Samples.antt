-- Document 01's samples of the least Message ID and of a key's size, on the definitions alone.
use Prim.Native.Nat.{ℕ}
use mathlib.Core.Path.{◌≡◌, refl}
use mathlib.Core.Bool.{true, false}
use lib.ListN.{replicate}
use Rattle.lists.specs.Lists.{any}
use Rattle.state_keys.specs.Algorithms.{size_of}
use Rattle.std.specs.Prelude.{None}
use Rattle.state_keys.specs.Kinds.{wrapping_key}
use Rattle.state.specs.declared.least.Least.TheVariants.{Id}
use Rattle.state.specs.Least.{acceptable, after_id}

-- "least ID 7: 6 refused (3), 7 and 9 taken; after 9, 9 refused"
pub below-least : acceptable 6 (Id 7) ≡ false
below-least = refl

pub at_least : acceptable 7 (Id 7) ≡ true
at_least = refl

pub above-least : acceptable 9 (Id 7) ≡ true
above-least = refl

pub after-nine : acceptable 9 (after_id 9) ≡ false
unfolding after_id
after-nine = refl

-- "ID 4,294,967,295 taken with no new Rekey SA: every later rekey over that SA is 3"
pub after-the-last : (id : ℕ) → acceptable id (after_id 4294967295) ≡ false
unfolding after_id
after-the-last id = refl

-- "a 28-octet default key: 5"
pub no-key-of-28 : wrapping_key (replicate 28 0) ≡ None
unfolding wrapping_key size_of any
no-key-of-28 = refl
