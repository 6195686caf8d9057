-- The sizes of an encryption part: 20, 28 or 36 octets are a salt behind an AES key.
use mathlib.Core.Path.{◌≡◌, sym, subst}
use mathlib.Core.Logic.{◌⊎◌, inl, inr}
use Prim.Native.Nat.{ℕ, ◌-◌, ◌≤◌}
use native.Mathlib.Omega.{arith}
use lib.Dec.{T}
use Rattle.fips197.specs.Key.{is_key}
use Rattle.rfc5282.specs.Sizes.{salt_octets}

abbrev Fits : ℕ → Type 0
Fits n = (salt_octets ≤ n) × T (is_key (n - salt_octets))

pub sizes-fit : (n : ℕ) → (n ≡ 20) ⊎ ((n ≡ 28) ⊎ (n ≡ 36)) → (salt_octets ≤ n) × T (is_key (n - salt_octets))
unfolding is_key
sizes-fit n (inl e) = subst Fits (sym e) (omega arith, tt)
sizes-fit n (inr (inl e)) = subst Fits (sym e) (omega arith, tt)
sizes-fit n (inr (inr e)) = subst Fits (sym e) (omega arith, tt)
