-- NIST SP 800-38D, section 6.4: GHASH_H, algorithm 2, of octets that are whole blocks.
use Rattle.std.specs.Prelude.{ℕ, zero, suc, ◌/◌, List, [], ◌∷◌, length, drop}
use Rattle.std.specs.Int.Bits.{bit_xor}
use Rattle.octets.specs.Numbers.{number}
use Rattle.sp800_38d.specs.Product.{product}

-- step 1: the blocks X_1, .., X_m of octets, each as a number
unfoldable pub block_numbers : ℕ → List ℕ → List ℕ
block_numbers zero s = []
block_numbers (suc m) s = number 16 s ∷ block_numbers m (drop 16 s)

-- step 3: Y_i = (Y_(i-1) + X_i) • H for each block in turn, from y on
unfoldable pub ghash_from : ℕ → ℕ → List ℕ → ℕ
ghash_from h y [] = y
ghash_from h y (x ∷ s) = ghash_from h (product (bit_xor y x) h) s

-- GHASH_H(X), with Y_0 = 0^128, step 2
unfoldable pub ghash : ℕ → List ℕ → ℕ
ghash h s = ghash_from h 0 (block_numbers (length s / 16) s)
