-- The library's rotations of a word.
use mathlib.Core.Path.{◌≡◌, ap, ◌∙◌}
use Prim.Native.Nat.{ℕ, ◌*◌, ◌/◌, ◌%◌, ◌<◌}
use native.Mathlib.Omega.{arith}
use lib.Bits.{bit_or, or_shifted_r}
use Rattle.std.specs.Int.{w32, rotate_right}
use Rattle.aes.specs.inner.Word.{ror8, ror16, ror24}

module _ (x : ℕ) (small : x < 4294967296) where
  pub ror8-is : rotate_right w32 x 8 ≡ ror8 x
  ror8-is =
      ap (bit_or (x / 256)) (let z : x * 16777216 % 4294967296 ≡ x % 256 * 16777216 = omega arith in z)
      ∙ or_shifted_r (x % 256) 24 (x / 256) (omega arith) ∙ omega arith

  pub ror16-is : rotate_right w32 x 16 ≡ ror16 x
  ror16-is =
      ap (bit_or (x / 65536)) (let z : x * 65536 % 4294967296 ≡ x % 65536 * 65536 = omega arith in z)
      ∙ or_shifted_r (x % 65536) 16 (x / 65536) (omega arith) ∙ omega arith

  pub ror24-is : rotate_right w32 x 24 ≡ ror24 x
  ror24-is =
      ap (bit_or (x / 16777216)) (let z : x * 256 % 4294967296 ≡ x % 16777216 * 256 = omega arith in z)
      ∙ or_shifted_r (x % 16777216) 8 (x / 16777216) (omega arith) ∙ omega arith
