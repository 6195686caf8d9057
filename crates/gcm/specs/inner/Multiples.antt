-- The product by four bits at a time. Inner.
use Rattle.std.specs.Prelude.{◌≡◌, ℕ, zero, suc, ◌+◌, ◌*◌, ◌/◌, ◌%◌, ◌-◌, ◌^◌, ◌<◌, List, get_or}
use Rattle.std.specs.Int.Bits.{bit_xor}
use Rattle.fips197.specs.Field.{mask_by}
use Rattle.sp800_38d.specs.Product.{v_at}

-- the sum of V_j over the first n bits f j that are 1
unfoldable pub bit_sum : (ℕ → ℕ) → ℕ → ℕ → ℕ
bit_sum f y zero = 0
bit_sum f y (suc n) = bit_xor (bit_sum f y n) (mask_by (f n) (v_at y n))

-- bit j of four, from the first on
unfoldable pub nibble : ℕ → ℕ → ℕ
nibble d j = d / 2 ^ (3 - j) % 2

-- the multiple of a block by four bits
unfoldable pub multiple_of : ℕ → ℕ → ℕ
multiple_of y d = bit_sum (nibble d) y 4

-- four bits of a block, the n-th from the first on
unfoldable pub digit : ℕ → ℕ → ℕ
digit x n = x / 2 ^ (124 - 4 * n) % 16

-- the halves of each multiple, one behind the other
unfoldable pub Multiples : ℕ → List ℕ → Type 0
Multiples y w = (d : ℕ) → d < 16 → get_or w (2 * d) 0 * 2 ^ 64 + get_or w (2 * d + 1) 0 ≡ multiple_of y d
