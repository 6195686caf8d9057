-- How the definitions are computed at known values: products by turns with V_i and Z_i at hand, GHASH by such products, GCTR by enciphered
-- counter blocks that are known.
use mathlib.Core.Path.{◌≡◌, refl, sym, ap, ◌∙◌}
use mathlib.Core.List.{List, [], ◌∷◌}
use Prim.Native.Nat.{ℕ, zero, suc, ◌+◌, ◌*◌, ◌/◌, ◌%◌, ◌<◌, ◌≤◌}
use native.Mathlib.Nat.{add-zero, add-suc, suc-add}
use native.Mathlib.Omega.{arith}
use lib.ListN.{length, get_or}
use lib.Bits.{bit_xor}
use Rattle.octets.specs.Numbers.{oct}
use Rattle.octets.specs.Generate.{gen}
use Rattle.octets.proofs.Generate.{gen-same}
use Rattle.fips197.specs.Field.{mask_by}
use Rattle.fips197.specs.Cipher.{cipher}
use Rattle.sp800_38d.specs.Product.{bit, shifted, v_at, z_at, product}
use Rattle.sp800_38d.specs.Ghash.{ghash_from}
use Rattle.sp800_38d.specs.Gctr.{counter_block, key_stream, gctr}

-- n turns of algorithm 1 from the i-th on, with Z_i and V_i at hand: 128 steps to compute where `product` takes some thousand
unfoldable pub turns : ℕ → ℕ → ℕ → ℕ → ℕ → ℕ
turns x zero i z v = z
turns x (suc n) i z v = turns x n (suc i) (bit_xor z (mask_by (bit x i) v)) (shifted v)

turns-are : (x y n i : ℕ) → z_at x y (i + n) ≡ turns x n i (z_at x y i) (v_at y i)
unfolding z_at v_at turns
turns-are x y zero i = ap (z_at x y) (add-zero i)
turns-are x y (suc n) i = ap (z_at x y) (add-suc i n ∙ sym (suc-add i n)) ∙ turns-are x y n (suc i)

pub by-turns : (x y : ℕ) → product x y ≡ turns x 128 0 0 y
unfolding product z_at v_at
by-turns x y = turns-are x y 128 0

-- GHASH with each product by its turns
unfoldable pub hash_by : ℕ → ℕ → List ℕ → ℕ
hash_by h y [] = y
hash_by h y (x ∷ s) = hash_by h (turns (bit_xor y x) 128 0 0 h) s

pub hash-by : (h y : ℕ) (s : List ℕ) → ghash_from h y s ≡ hash_by h y s
unfolding ghash_from hash_by
hash-by h y [] = refl
hash-by h y (x ∷ s) = ap (λ (z : ℕ). ghash_from h z s) (by-turns (bit_xor y x) h) ∙ hash-by h (turns (bit_xor y x) 128 0 0 h) s

-- GCTR where the enciphered counter blocks are known
pub by_blocks : (k b x : List ℕ) (m : List (List ℕ)) → ((j : ℕ) → j < length m → cipher k (counter_block b j) ≡ get_or m j [])
    → length x ≤ 16 * length m → gctr k b x ≡ gen (λ i. bit_xor (oct x i) (oct (get_or m (i / 16) []) (i % 16))) 0 (length x)
unfolding gctr key_stream
by_blocks k b x m is l =
    gen-same (λ i. bit_xor (oct x i) (oct (cipher k (counter_block b (i / 16))) (i % 16)))
    (λ i. bit_xor (oct x i) (oct (get_or m (i / 16) []) (i % 16))) (length x) 0
    (λ i n. ap (λ (s : List ℕ). bit_xor (oct x (0 + i)) (oct s ((0 + i) % 16))) (is ((0 + i) / 16) (omega (arith, n, l))))
