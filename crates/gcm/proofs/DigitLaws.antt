-- Four bits of a block, by its halves; what falls off when a block is shifted on by four places.
use mathlib.Core.Path.{◌≡◌, sym, ap, ap₂, ◌∙◌}
use Prim.Native.Nat.{ℕ, zero, suc, ◌+◌, ◌*◌, ◌/◌, ◌%◌, ◌-◌, ◌^◌, ◌<◌, ◌≤◌}
use native.Mathlib.Nat.{mod-lt, div-div-eq-div-mul, add-mul-div_right, mul_assoc}
use native.Mathlib.Nat.{add_comm, add-zero, mul-add-mod_self_right, not-suc-le-zero, le_of_suc-le-suc}
use native.Mathlib.Omega.{arith}
use lib.Arith.{digits_div}
use lib.Dec.{lit<, eqb, eqb→eq, ltb, ltb→lt}
use lib.Pow.{pow-add, pow_pos}
use lib.Bits.{bit_xor, xor_block, xor_zero_r}
use Rattle.lists.proofs.Below.{below}
use Rattle.sp800_38d.specs.Product.{reduction, bit, shifted, v_at}
use Rattle.gcm.specs.inner.Multiples.{nibble, digit}
use Rattle.gcm.proofs.NibbleLaws.{shifted-four}

module _ (hi lo : ℕ) (small : lo < 2 ^ 64) where
  pub first-digits : (n : ℕ) → n < 16 → hi / 2 ^ (60 - 4 * n) % 16 ≡ digit (hi * 2 ^ 64 + lo) n
  unfolding digit
  first-digits n h =
      ap (λ (x : ℕ). x / 2 ^ (60 - 4 * n) % 16) (sym (digits_div hi small))
      ∙ ap (λ (x : ℕ). x % 16) (div-div-eq-div-mul (hi * 2 ^ 64 + lo) (2 ^ 64) (2 ^ (60 - 4 * n))
      ∙ ap (λ (x : ℕ). (hi * 2 ^ 64 + lo) / x) (sym (pow-add 2 64 (60 - 4 * n)) ∙ ap (λ (k : ℕ). 2 ^ k) e))
    where
      e : 64 + (60 - 4 * n) ≡ 124 - 4 * n
      e = omega arith

  last-digit : (m k : ℕ) → m + 4 + k ≡ 64 → lo / 2 ^ k % 16 ≡ (hi * 2 ^ 64 + lo) / 2 ^ k % 16
  last-digit m k e =
      sym (ap (λ (x : ℕ). x / 2 ^ k % 16) (ap (λ (x : ℕ). hi * x + lo) (ap (λ (n : ℕ). 2 ^ n) (sym e) ∙ pow-add 2 (m + 4) k)
      ∙ ap (λ (x : ℕ). x + lo) (sym (mul_assoc hi (2 ^ (m + 4)) (2 ^ k))) ∙ add_comm (hi * 2 ^ (m + 4) * 2 ^ k) lo)
      ∙ ap (λ (x : ℕ). x % 16) (add-mul-div_right lo (hi * 2 ^ (m + 4)) (pow_pos k) ∙ add_comm (lo / 2 ^ k) (hi * 2 ^ (m + 4))
      ∙ ap (λ (x : ℕ). x + lo / 2 ^ k) (ap (λ (x : ℕ). hi * x) (pow-add 2 m 4) ∙ sym (mul_assoc hi (2 ^ m) (2 ^ 4))))
      ∙ mul-add-mod_self_right (hi * 2 ^ m) 16 (lo / 2 ^ k))

  pub last_digits : (n : ℕ) → 16 ≤ n → n < 32 → lo / 2 ^ (124 - 4 * n) % 16 ≡ digit (hi * 2 ^ 64 + lo) n
  unfolding digit
  last_digits n h k = last-digit (4 * n - 64) (124 - 4 * n) (omega arith)

pub digit-small : (x : ℕ) → x % 16 < 16
digit-small x = mod-lt x (lit< tt)

-- a bit of four bits is a bit of the block
low : (x k : ℕ) → k < 4 → x % 16 / 2 ^ k % 2 ≡ x / 2 ^ k % 2
low x zero h = omega arith
low x (suc zero) h = omega arith
low x (suc (suc zero)) h = omega arith
low x (suc (suc (suc zero))) h = omega arith
low x (suc (suc (suc (suc k)))) h =
    absurd (not-suc-le-zero (le_of_suc-le-suc (le_of_suc-le-suc (le_of_suc-le-suc (le_of_suc-le-suc h)))))

pub digit-bit : (x n j : ℕ) → n < 32 → j < 4 → nibble (digit x n) j ≡ bit x (4 * n + j)
unfolding nibble digit bit
digit-bit x n j hn hj =
    low (x / 2 ^ (124 - 4 * n)) (3 - j) (omega arith)
    ∙ ap (λ (y : ℕ). y % 2) (div-div-eq-div-mul x (2 ^ (124 - 4 * n)) (2 ^ (3 - j))
    ∙ ap (λ (y : ℕ). x / y) (sym (pow-add 2 (124 - 4 * n) (3 - j)) ∙ ap (λ (k : ℕ). 2 ^ k)
    (let z : 124 - 4 * n + (3 - j) ≡ 127 - (4 * n + j) = omega arith in z)))

-- what falls off, four bits, comes in again at the other end
abbrev pub fallen_of : ℕ → ℕ
fallen_of d = bit_xor (bit_xor d (d * 32)) (bit_xor (d * 64) (d * 128)) * 9007199254740992

pub fallen-is : (d : ℕ) → d < 16 → fallen_of d * 2 ^ 64 ≡ v_at d 4
unfolding v_at shifted reduction
fallen-is d h = eqb→eq (fallen_of d * 2 ^ 64) (v_at d 4) (below 16 (λ d. eqb (fallen_of d * 2 ^ 64) (v_at d 4)) tt d h)

pub fallen-small : (d : ℕ) → d < 16 → fallen_of d < 2 ^ 64
fallen-small d h = ltb→lt (fallen_of d) (2 ^ 64) (below 16 (λ d. ltb (fallen_of d) (2 ^ 64)) tt d h)

pub four-carried : (hi lo : ℕ) → lo < 2 ^ 64 → lo / 16 + hi % 16 * 0x1000000000000000 < 2 ^ 64
four-carried hi lo small = omega arith

pub four-halves : (hi lo r : ℕ) → lo < 2 ^ 64 → r * 2 ^ 64 ≡ v_at (lo % 16) 4
    → bit_xor (hi / 16) r * 2 ^ 64 + (lo / 16 + hi % 16 * 0x1000000000000000) ≡ v_at (hi * 2 ^ 64 + lo) 4
four-halves hi lo r small e =
    ap (λ (x : ℕ). bit_xor (hi / 16) r * 2 ^ 64 + x) (sym (xor_zero_r kept_low))
    ∙ sym (xor_block 64 (hi / 16) r kept_low 0 (four-carried hi lo small) (lit< tt))
    ∙ ap₂ bit_xor (let z : hi / 16 * 2 ^ 64 + kept_low ≡ (hi * 2 ^ 64 + lo) / 16 = omega arith in z)
    (add-zero (r * 2 ^ 64) ∙ e ∙ ap (λ (x : ℕ). v_at x 4) (let z : lo % 16 ≡ (hi * 2 ^ 64 + lo) % 16 = omega arith in z))
    ∙ sym (shifted-four (hi * 2 ^ 64 + lo))
  where
    kept_low : ℕ
    kept_low = lo / 16 + hi % 16 * 0x1000000000000000
