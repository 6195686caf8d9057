-- Unwrapping undoes wrapping, and wrapping unwrapping: step by step, row by row.
use mathlib.Core.Path.{◌≡◌, sym, ap, ap₂, ◌∙◌, subst}
use mathlib.Core.Bool.{Bool, true, false}
use mathlib.Core.List.{List}
use Prim.Native.Nat.{ℕ, zero, suc, ◌+◌, ◌*◌, ◌^◌, ◌≤◌, ◌<◌}
use native.Mathlib.Nat.{mul-le-mul_left}
use native.Mathlib.Omega.{arith}
use lib.Dec.{eqb}
use lib.ListN.{length, set, length-set}
use lib.Seq.{get_or-set_same, get_or-set_other, set-get_or, set-set, set_comm}
use lib.Bits.{bit_xor, xor_lt, xor_zero_r}
use Rattle.octets.proofs.Xor.{xor-twice}
use Rattle.lists.proofs.Undo.{Undo, same, after}
use Rattle.fips197.specs.Block.{Block}
use Rattle.fips197.specs.Key.{Key}
use Rattle.fips197.specs.Cipher.{cipher, inv_cipher}
use Rattle.fips197.proofs.Inverse.{cipher-block, inv-cipher-block, inv-cipher-cipher, cipher-inv-cipher}
use Rattle.rfc5649.specs.Steps.{register, join_registers, msb64, lsb64, stored, step, row, rows}
use Rattle.rfc5649.specs.inner.Unwrap.{unstep, unrow, unrows, forward_by, forward, backward_by, backward}
use Rattle.rfc5649.proofs.Registers.{Registers, set-registers}
use Rattle.rfc5649.proofs.Blocks.{joined-block, msb-joined, lsb-joined, msb-lt, lsb-lt, joined-parts}

-- ---- what a step stores, at an index i of the registers s

module _ (s : List ℕ) (i : ℕ) (first : 0 < i) (within : i < length s) where
  apart : 0 ≡ i → ⊥
  apart e = omega arith

  pub stored-a : (t : ℕ) (b : List ℕ) → register (stored t i b s) 0 ≡ bit_xor (msb64 b) t
  unfolding stored
  stored-a t b =
      get_or-set_other (set s 0 (bit_xor (msb64 b) t)) i 0 (lsb64 b) 0 apart
      ∙ get_or-set_same s 0 (bit_xor (msb64 b) t) 0 (omega arith)

  pub stored-r : (t : ℕ) (b : List ℕ) → register (stored t i b s) i ≡ lsb64 b
  unfolding stored
  stored-r t b =
      get_or-set_same (set s 0 (bit_xor (msb64 b) t)) i (lsb64 b) 0
      (subst (λ (n : ℕ). i < n) (sym (length-set s 0 (bit_xor (msb64 b) t))) within)

  -- what is stored later counts
  pub stored-again : (t u : ℕ) (b d : List ℕ) → stored u i d (stored t i b s) ≡ stored u i d s
  unfolding stored
  stored-again t u b d =
      ap (λ (x : List ℕ). set x i (lsb64 d))
      (set_comm (set s 0 x) i 0 (lsb64 b) y (λ (e : i ≡ 0). apart (sym e)) ∙ ap (λ (l : List ℕ). set l i (lsb64 b)) (set-set s 0 x y))
      ∙ set-set (set s 0 y) i (lsb64 b) (lsb64 d)
    where
      x : ℕ
      x = bit_xor (msb64 b) t

      y : ℕ
      y = bit_xor (msb64 d) u

  -- what stands there already is stored
  pub stored_same : (t a : ℕ) → a < 256 ^ 8 → register s i < 256 ^ 8 → bit_xor a t ≡ register s 0
      → stored t i (join_registers a (register s i)) s ≡ s
  unfolding stored
  stored_same t a ha hr e =
      ap₂ (λ (x y : ℕ). set (set s 0 x) i y)
      (ap (λ (x : ℕ). bit_xor x t) (msb-joined a (register s i) ha) ∙ e) (lsb-joined a (register s i) hr)
      ∙ ap (λ (l : List ℕ). set l i (register s i)) (set-get_or s 0 0)
      ∙ set-get_or s i 0

-- ---- a step

stored-registers : {k : ℕ} {s : List ℕ} (t i : ℕ) (b : List ℕ) → Registers k s → Block b → t < 256 ^ 8 → Registers k (stored t i b s)
unfolding stored
stored-registers t i b g h l =
    set-registers i (lsb64 b) (set-registers 0 (bit_xor (msb64 b) t) g (xor_lt 64 (msb64 b) t (msb-lt b h) l)) (lsb-lt b h)

module _ (key : List ℕ) (is : Key key) (k t i : ℕ) (small : t < 256 ^ 8) (first : 0 < i) (within : i < k) where
  inside : {s : List ℕ} → Registers k s → i < length s
  inside g = subst (λ (n : ℕ). i < n) (sym g.size) within

  step-undone : Undo (Registers k) (step key t i) (unstep key t i)
  unfolding step unstep
  step-undone =
      record {
        keeps = λ s g. stored-registers t i (b s) g (cipher-block is (joined-block (register s 0) (register s i))) small;
        undone = λ s g.
            ap (λ (x : List ℕ). stored 0 i x (stored t i (b s) s)) (back s g)
            ∙ stored-again s i first (inside g) t 0 (b s) (join_registers (register s 0) (register s i))
            ∙ stored_same s i first (inside g) 0 (register s 0) (g.small 0) (g.small i) (xor_zero_r (register s 0));
      }
    where
      b : List ℕ → List ℕ
      b s = cipher key (join_registers (register s 0) (register s i))

      back : (s : List ℕ) → Registers k s
          → inv_cipher key (join_registers (bit_xor (register (stored t i (b s) s) 0) t) (register (stored t i (b s) s) i))
          ≡ join_registers (register s 0) (register s i)
      back s g =
          ap₂ (λ (x y : ℕ). inv_cipher key (join_registers (bit_xor x t) y))
          (stored-a s i first (inside g) t (b s)) (stored-r s i first (inside g) t (b s))
          ∙ ap (λ (x : ℕ). inv_cipher key (join_registers x (lsb64 (b s)))) (xor-twice (msb64 (b s)) t)
          ∙ ap (inv_cipher key) (joined-parts (b s) (cipher-block is (joined-block (register s 0) (register s i))))
          ∙ inv-cipher-cipher is (joined-block (register s 0) (register s i))

  unstep-undone : Undo (Registers k) (unstep key t i) (step key t i)
  unfolding step unstep
  unstep-undone =
      record {
        keeps = λ s g. stored-registers 0 i (b s) g (inv-cipher-block is (joined-block (a s) (register s i))) (omega arith);
        undone = λ s g.
            ap (λ (x : List ℕ). stored t i x (stored 0 i (b s) s)) (back s g)
            ∙ stored-again s i first (inside g) 0 t (b s) (join_registers (a s) (register s i))
            ∙ stored_same s i first (inside g) t (a s) (xor_lt 64 (register s 0) t (g.small 0) small) (g.small i)
            (xor-twice (register s 0) t);
      }
    where
      a : List ℕ → ℕ
      a s = bit_xor (register s 0) t

      b : List ℕ → List ℕ
      b s = inv_cipher key (join_registers (a s) (register s i))

      back : (s : List ℕ) → Registers k s
          → cipher key (join_registers (register (stored 0 i (b s) s) 0) (register (stored 0 i (b s) s) i))
          ≡ join_registers (a s) (register s i)
      back s g =
          ap₂ (λ (x y : ℕ). cipher key (join_registers x y)) (stored-a s i first (inside g) 0 (b s) ∙ xor_zero_r (msb64 (b s)))
          (stored-r s i first (inside g) 0 (b s))
          ∙ ap (cipher key) (joined-parts (b s) (inv-cipher-block is (joined-block (a s) (register s i))))
          ∙ cipher-inv-cipher is (joined-block (a s) (register s i))

-- ---- rows

module _ (key : List ℕ) (is : Key key) (k : ℕ) where
  pub row-undone : (base n : ℕ) → n < k → base + n < 256 ^ 8 → Undo (Registers k) (row key base n) (unrow key base n)
  unfolding row unrow
  row-undone base zero h l = same
  row-undone base (suc n) h l =
      after (row-undone base n (omega arith) (omega arith)) (step-undone key is k (base + suc n) (suc n) l (omega arith) h)

  pub unrow-undone : (base n : ℕ) → n < k → base + n < 256 ^ 8 → Undo (Registers k) (unrow key base n) (row key base n)
  unfolding row unrow
  unrow-undone base zero h l = same
  unrow-undone base (suc n) h l =
      after (unstep-undone key is k (base + suc n) (suc n) l (omega arith) h) (unrow-undone base n (omega arith) (omega arith))

  -- t stays far below 64 bits
  t-small : (n j : ℕ) → n ≤ 32 → j < 6 → n * j + n < 256 ^ 8
  t-small n j h l = omega (arith, mul-le-mul_left n (let z : j ≤ 5 = omega arith in z))

  pub rows-undone : (n j : ℕ) → n < k → n ≤ 32 → j ≤ 6 → Undo (Registers k) (rows key n j) (unrows key n j)
  unfolding rows unrows
  rows-undone n zero h l b = same
  rows-undone n (suc j) h l b = after (rows-undone n j h l (omega arith)) (row-undone (n * j) n h (t-small n j l b))

  pub unrows-undone : (n j : ℕ) → n < k → n ≤ 32 → j ≤ 6 → Undo (Registers k) (unrows key n j) (rows key n j)
  unfolding rows unrows
  unrows-undone n zero h l b = same
  unrows-undone n (suc j) h l b = after (unrow-undone (n * j) n h (t-small n j l b)) (unrows-undone n j h l (omega arith))

-- ---- the whole, of n blocks

module _ (key : List ℕ) (is : Key key) (n : ℕ) (least : 1 ≤ n) (most : n ≤ 32) where
  pub forward-undone : Undo (Registers (suc n)) (forward key n) (backward key n)
  unfolding forward backward
  forward-undone = by (eqb n 1)
    where
      by : (one : Bool) → Undo (Registers (suc n)) (forward_by one key n) (backward_by one key n)
      by true = step-undone key is (suc n) 0 1 (omega arith) (omega arith) (omega arith)
      by false = rows-undone key is (suc n) n 6 (omega arith) most (omega arith)

  pub backward-undone : Undo (Registers (suc n)) (backward key n) (forward key n)
  unfolding forward backward
  backward-undone = by (eqb n 1)
    where
      by : (one : Bool) → Undo (Registers (suc n)) (backward_by one key n) (forward_by one key n)
      by true = unstep-undone key is (suc n) 0 1 (omega arith) (omega arith) (omega arith)
      by false = unrows-undone key is (suc n) n 6 (omega arith) most (omega arith)
