-- What the code of a step stores, and a turn of each loop over the steps.
use mathlib.Core.Path.{◌≡◌, sym, ap, ap₂, ◌∙◌}
use mathlib.Core.List.{List}
use Prim.Native.Nat.{ℕ, suc, ◌+◌, ◌*◌, ◌-◌, ◌^◌, ◌≤◌, ◌<◌}
use native.Mathlib.Nat.{mul-le-mul_left}
use native.Mathlib.Numerals.{add-one}
use native.Mathlib.Omega.{arith}
use borrow.Author.Tests.{eq-eqb, ne_eqb}
use lib.ListN.{set}
use lib.Bits.{bit_xor, xor_zero_r}
use Rattle.fips197.specs.Cipher.{cipher, inv_cipher}
use Rattle.rfc5649.specs.Steps.{register, join_registers, msb64, stored, step, row, rows}
use Rattle.rfc5649.specs.inner.Unwrap.{unstep, unrow, unrows, forward, backward}
use Rattle.rfc5649.proofs.Blocks.{msb-joined, lsb-joined}

-- ---- a step

module _ (key s : List ℕ) (t i a r : ℕ) (ha : a < 256 ^ 8) (hr : r < 256 ^ 8) where
  pub stepped : join_registers a r ≡ cipher key (join_registers (register s 0) (register s i)) →
      set (set s 0 (bit_xor a t)) i r ≡ step key t i s
  unfolding step stored
  stepped e =
      ap₂ (λ (y z : ℕ). set (set s 0 (bit_xor y t)) i z) (sym (msb-joined a r ha)) (sym (lsb-joined a r hr))
      ∙ ap (λ (y : List ℕ). stored t i y s) e

  pub unstepped : join_registers a r ≡ inv_cipher key (join_registers (bit_xor (register s 0) t) (register s i)) →
      set (set s 0 a) i r ≡ unstep key t i s
  unfolding unstep stored
  unstepped e =
      ap₂ (λ (y z : ℕ). set (set s 0 y) i z) (sym (xor_zero_r (msb64 (join_registers a r)) ∙ msb-joined a r ha)) (sym (lsb-joined a r hr))
      ∙ ap (λ (y : List ℕ). stored 0 i y s) e

-- ---- a turn of a loop

module _ (key s₀ : List ℕ) (base i : ℕ) {s s' : List ℕ} where
  pub row-turn : s ≡ row key base i s₀ → s' ≡ step key (base + i + 1) (i + 1) s → s' ≡ row key base (i + 1) s₀
  unfolding row
  row-turn e h =
      h ∙ ap₂ (λ (t j : ℕ). step key t j s) (let z : base + i + 1 ≡ base + suc i = omega arith in z) (add-one i) ∙ ap (step key (base + suc i) (suc i)) e
      ∙ ap (λ (j : ℕ). row key base j s₀) (sym (add-one i))

module _ (key s : List ℕ) (base i : ℕ) (more : 0 < i) {x s' : List ℕ} where
  pub unrow-turn : unrow key base i s ≡ x → s' ≡ unstep key (base + (i - 1) + 1) (i - 1 + 1) s → unrow key base (i - 1) s' ≡ x
  unfolding unrow
  unrow-turn e h =
      ap (unrow key base (i - 1)) (h ∙ ap₂ (λ (t j : ℕ). unstep key t j s) (let z : base + (i - 1) + 1 ≡ base + suc (i - 1) = omega arith in z) (add-one (i - 1)))
      ∙ sym (ap (λ (j : ℕ). unrow key base j s) back) ∙ e
    where
      back : i ≡ suc (i - 1)
      back = omega arith

module _ (key s₀ : List ℕ) (n j : ℕ) {s s' : List ℕ} where
  pub rows-turn : s ≡ rows key n j s₀ → s' ≡ row key (n * j) n s → s' ≡ rows key n (j + 1) s₀
  unfolding rows
  rows-turn e h = h ∙ ap (row key (n * j) n) e ∙ ap (λ (i : ℕ). rows key n i s₀) (sym (add-one j))

module _ (key s : List ℕ) (n j : ℕ) (more : 0 < j) {x s' : List ℕ} where
  pub unrows-turn : unrows key n j s ≡ x → s' ≡ unrow key (n * (j - 1)) n s → unrows key n (j - 1) s' ≡ x
  unfolding unrows
  unrows-turn e h =
      ap (unrows key n (j - 1)) h ∙ sym (ap (λ (i : ℕ). unrows key n i s) (let z : j ≡ suc (j - 1) = omega arith in z)) ∙ e

-- t stays far below 64 bits
pub base-small : (n j : ℕ) → n ≤ 32 → j < 6 → n * j ≤ 160
base-small n j h l = omega (arith, mul-le-mul_left n (let z : j ≤ 5 = omega arith in z))

-- ---- one block, or more

module _ (key s₀ : List ℕ) (n : ℕ) {s : List ℕ} where
  pub forward-one : n ≡ 1 → s ≡ step key 0 1 s₀ → s ≡ forward key n s₀
  unfolding forward
  forward-one h e = e ∙ simp (eq-eqb n 1 h)

  pub forward-more : (n ≡ 1 → ⊥) → s ≡ rows key n 6 s₀ → s ≡ forward key n s₀
  unfolding forward
  forward-more h e = e ∙ simp (ne_eqb n 1 h)

  pub backward-one : n ≡ 1 → s ≡ unstep key 0 1 s₀ → s ≡ backward key n s₀
  unfolding backward
  backward-one h e = e ∙ simp (eq-eqb n 1 h)

  pub backward-more : (n ≡ 1 → ⊥) → s ≡ unrows key n 6 s₀ → s ≡ backward key n s₀
  unfolding backward
  backward-more h e = e ∙ simp (ne_eqb n 1 h)
