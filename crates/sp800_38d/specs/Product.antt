-- NIST SP 800-38D, section 6.3: the product of two blocks, algorithm 1. A block is a string of 128 bits x_0 x_1 .. x_127. It stands here
-- for the number that its 16 octets give, so x_0 is that number's highest bit.
use Rattle.std.specs.Prelude.{ℕ, zero, suc, ◌*◌, ◌/◌, ◌%◌, ◌-◌, ◌^◌}
use Rattle.std.specs.Int.Bits.{bit_xor}
use Rattle.fips197.specs.Field.{mask_by}

-- R = 11100001 || 0^120
unfoldable pub reduction : ℕ
reduction = 225 * 2 ^ 120

-- step 1: x_i
unfoldable pub bit : ℕ → ℕ → ℕ
bit x i = x / 2 ^ (127 - i) % 2

-- V >> 1, with R added where LSB_1(V) is 1
unfoldable pub shifted : ℕ → ℕ
shifted v = bit_xor (v / 2) (mask_by (v % 2) reduction)

-- steps 2 and 3: V_0 = Y, and V_(i+1) is V_i shifted
unfoldable pub v_at : ℕ → ℕ → ℕ
v_at y zero = y
v_at y (suc i) = shifted (v_at y i)

-- steps 2 and 3: Z_0 = 0^128, and Z_(i+1) is Z_i with V_i added where x_i is 1
unfoldable pub z_at : ℕ → ℕ → ℕ → ℕ
z_at x y zero = 0
z_at x y (suc i) = bit_xor (z_at x y i) (mask_by (bit x i) (v_at y i))

-- step 4: X • Y = Z_128
unfoldable pub product : ℕ → ℕ → ℕ
product x y = z_at x y 128
