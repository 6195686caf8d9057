-- `Opens` determines what is opened.
use mathlib.Core.Path.{◌≡◌, refl, sym, ap, ap₂, ◌∙◌}
use mathlib.Core.List.{List}
use Prim.Native.Nat.{ℕ, suc, ◌*◌, ◌-◌}
use native.Mathlib.Omega.{arith}
use lib.ListN.{length, take, drop, get_or, replicate}
use lib.Seq.{take_at}
use Rattle.fips197.specs.Key.{Key}
use Rattle.rfc5649.specs.Wrap.{blocks, pad_to_blocks, registers, register_octets, start_registers}
use Rattle.rfc5649.specs.Opens.{Opens}
use Rattle.rfc5649.specs.inner.Unwrap.{backward}
use Rattle.rfc5649.proofs.Wrapping.{length-wrapped, unwrapped, padded-is}

unpadded : (x : List ℕ) → take (length x) (pad_to_blocks x) ≡ x
unfolding pad_to_blocks
unpadded x = take_at x (replicate (8 * blocks (length x) - length x) 0) (length x) refl

-- "the octets it opens to" are one
pub opens_one : (key wrapped x y : List ℕ) → Key key → Opens key wrapped x → Opens key wrapped y → x ≡ y
unfolding start_registers
opens_one key wrapped x y is h k =
    sym (unpadded x) ∙ ap₂ take count (sym (padded-is key wrapped x is h) ∙ ap register_octets behind ∙ padded-is key wrapped y is k)
    ∙ unpadded y
  where
    same : blocks (length x) ≡ blocks (length y)
    same = omega (arith, length-wrapped key wrapped x is h, length-wrapped key wrapped y is k)

    begun : start_registers x ≡ start_registers y
    begun =
        sym (unwrapped key wrapped x is h) ∙ ap (λ (n : ℕ). backward key n (registers (suc n) wrapped)) same
        ∙ unwrapped key wrapped y is k

    count : length x ≡ length y
    count = omega (arith, ap (λ (s : List ℕ). get_or s 0 0) begun)

    behind : registers (blocks (length x)) (pad_to_blocks x) ≡ registers (blocks (length y)) (pad_to_blocks y)
    behind = ap (drop 1) begun
