-- The steps of the product on two halves of 64 bits.
use mathlib.Core.Path.{◌≡◌, sym, ap, ap₂, ◌∙◌}
use Prim.Native.Nat.{ℕ, zero, suc, ◌+◌, ◌*◌, ◌/◌, ◌%◌, ◌^◌, ◌<◌}
use native.Mathlib.Nat.{mod-lt, mul_assoc, add-zero, not-suc-le-zero, le_of_suc-le-suc}
use native.Mathlib.Omega.{arith}
use lib.Dec.{lit<}
use lib.Bits.{bit_xor, xor_block, xor_zero_r}
use Rattle.fips197.specs.Field.{mask_by}
use Rattle.sp800_38d.specs.Product.{reduction, shifted}

-- what is kept by a bit is a product
keep-is : (b x : ℕ) → b < 2 → mask_by b x ≡ b * x
keep-is zero x h = omega arith
keep-is (suc zero) x h = omega arith
keep-is (suc (suc b)) x h = absurd (not-suc-le-zero (le_of_suc-le-suc (le_of_suc-le-suc h)))

pub kept_small : (b x n : ℕ) → b < 2 → x < n → b * x < n
kept_small zero x n h k = omega arith
kept_small (suc zero) x n h k = omega arith
kept_small (suc (suc b)) x n h k = absurd (not-suc-le-zero (le_of_suc-le-suc (le_of_suc-le-suc h)))

kept-halves : (b h l : ℕ) → b < 2 → mask_by b (h * 2 ^ 64 + l) ≡ b * h * 2 ^ 64 + b * l
kept-halves zero h l k = omega arith
kept-halves (suc zero) h l k = omega arith
kept-halves (suc (suc b)) h l k = absurd (not-suc-le-zero (le_of_suc-le-suc (le_of_suc-le-suc k)))

-- a block shifted on, by its halves
pub shifted-halves : (hi lo : ℕ) → lo < 2 ^ 64
    → bit_xor (hi / 2) (lo % 2 * 0xe100000000000000) * 2 ^ 64 + (lo / 2 + hi % 2 * 0x8000000000000000) ≡ shifted (hi * 2 ^ 64 + lo)
unfolding shifted reduction
shifted-halves hi lo small =
    ap (λ (x : ℕ). bit_xor (hi / 2) (lo % 2 * 0xe100000000000000) * 2 ^ 64 + x) (sym (xor_zero_r low))
    ∙ sym (xor_block 64 (hi / 2) (lo % 2 * 0xe100000000000000) low 0 low_small (lit< tt))
    ∙ ap₂ bit_xor halved kept
  where
    low : ℕ
    low = lo / 2 + hi % 2 * 0x8000000000000000

    low_small : low < 2 ^ 64
    low_small = omega arith

    halved : hi / 2 * 2 ^ 64 + low ≡ (hi * 2 ^ 64 + lo) / 2
    halved = omega arith

    even : lo % 2 ≡ (hi * 2 ^ 64 + lo) % 2
    even = omega arith

    kept : lo % 2 * 0xe100000000000000 * 2 ^ 64 + 0 ≡ mask_by ((hi * 2 ^ 64 + lo) % 2) (225 * 2 ^ 120)
    kept =
        add-zero (lo % 2 * 0xe100000000000000 * 2 ^ 64)
        ∙ mul_assoc (lo % 2) 0xe100000000000000 (2 ^ 64)
        ∙ sym (keep-is (lo % 2) (225 * 2 ^ 120) (mod-lt lo (lit< tt)))
        ∙ ap (λ (b : ℕ). mask_by b (225 * 2 ^ 120)) even

-- a block added where a bit is 1, by its halves
pub added-halves : (zh zl vh vl b : ℕ) → zl < 2 ^ 64 → vl < 2 ^ 64 → b < 2
    → bit_xor zh (b * vh) * 2 ^ 64 + bit_xor zl (b * vl) ≡ bit_xor (zh * 2 ^ 64 + zl) (mask_by b (vh * 2 ^ 64 + vl))
added-halves zh zl vh vl b hz hv hb =
    sym (xor_block 64 zh (b * vh) zl (b * vl) hz (kept_small b vl (2 ^ 64) hb hv))
    ∙ ap (bit_xor (zh * 2 ^ 64 + zl)) (sym (kept-halves b vh vl hb))

-- what is carried from half to half fits
pub carried-small : (hi lo : ℕ) → lo < 2 ^ 64 → lo / 2 + hi % 2 * 0x8000000000000000 < 2 ^ 64
carried-small hi lo small = omega arith
