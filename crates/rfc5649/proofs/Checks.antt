-- The checks of unwrapped registers.
use mathlib.Core.Path.{◌≡◌, refl, sym, ap, ap₂, ◌∙◌}
use mathlib.Core.Bool.{Bool, true, false, ◌&&◌}
use mathlib.Core.List.{List, [], ◌∷◌, ◌++◌}
use Prim.Native.Nat.{ℕ, zero, suc, ◌+◌, ◌*◌, ◌-◌, ◌/◌, ◌%◌, ◌≤◌, ◌<◌}
use native.Mathlib.Omega.{arith}
use borrow.Author.Tests.{eqb-true, eq-eqb}
use lib.Dec.{eqb}
use lib.ListN.{length, get_or, take, drop, replicate, length-drop}
use lib.Seq.{drop_at}
use Rattle.std.specs.Prelude.{◌↔◌, IsTrue, EachIndex}
use Rattle.rfc5649.specs.Wrap.{initial_value, blocks}
use Rattle.rfc5649.specs.inner.Unwrap.{fits_blocks, count_by, count_in, all_zero, zero_from}

-- ---- octets from an index on

-- a test of each octet
all-each : (s : List ℕ) → all_zero s ≡ true → EachIndex s (λ i. get_or s i 0 ≡ 0)
all-each [] e i h = refl
all-each (x ∷ s) e i h = by (eqb x 0) refl e (all-each s) i h
  where
    by : (b : Bool) → eqb x 0 ≡ b → (b && all_zero s) ≡ true → (all_zero s ≡ true → EachIndex s (λ i. get_or s i 0 ≡ 0))
        → EachIndex (x ∷ s) (λ i. get_or (x ∷ s) i 0 ≡ 0)
    by true q f r zero h = eqb-true x 0 q
    by true q f r (suc i) h = r f i (omega arith)
    by false q f r i h = let z : ◌≡◌ {A = ℕ} 0 1 = cc in absurd (omega arith)

each-all : (s : List ℕ) → EachIndex s (λ i. get_or s i 0 ≡ 0) → all_zero s ≡ true
each-all [] f = refl
each-all (x ∷ s) f =
    ap (λ (b : Bool). b && all_zero s) (eq-eqb x 0 (f 0 (omega arith))) ∙ each-all s (λ i h. f (suc i) (omega arith))

pub zero-test : (s : List ℕ) (t : Bool) → (IsTrue t ↔ EachIndex s (λ i. get_or s i 0 ≡ 0)) → t ≡ all_zero s
zero-test s true h = sym (each-all s (h.0 refl))
zero-test s false h = by (all_zero s) refl
  where
    by : (b : Bool) → all_zero s ≡ b → false ≡ all_zero s
    by true e = h.1 (all-each s e) ∙ sym e
    by false e = sym e

all-zero : (s : List ℕ) → all_zero s ≡ true → s ≡ replicate (length s) 0
all-zero [] e = refl
all-zero (x ∷ s) e = by (eqb x 0) refl e (all-zero s)
  where
    by : (b : Bool) → eqb x 0 ≡ b → (b && all_zero s) ≡ true → (all_zero s ≡ true → s ≡ replicate (length s) 0)
        → x ∷ s ≡ 0 ∷ replicate (length s) 0
    by true q f r = ap₂ {C = List ℕ} ◌∷◌ (eqb-true x 0 q) (r f)
    by false q f r = let z : ◌≡◌ {A = ℕ} 0 1 = cc in absurd (omega arith)

zeros : (n : ℕ) → all_zero (replicate n 0) ≡ true
zeros zero = refl
zeros (suc n) = zeros n

pub zero-from : (s : List ℕ) (m : ℕ) → zero_from m s ≡ true → drop m s ≡ replicate (length s - m) 0
unfolding zero_from
zero-from s m e = all-zero (drop m s) e ∙ ap (λ (k : ℕ). replicate k 0) (length-drop m s)

-- zeros behind do not matter
zero-run : (m k : ℕ) → zero_from m (replicate k 0) ≡ true
unfolding zero_from
zero-run zero zero = refl
zero-run zero (suc k) = zero-run zero k
zero-run (suc m) zero = refl
zero-run (suc m) (suc k) = zero-run m k

none-behind : (m : ℕ) → zero_from m [] ≡ true
unfolding zero_from
none-behind zero = refl
none-behind (suc m) = refl

pub zero-behind : (s : List ℕ) (m k : ℕ) → zero_from m (s ++ replicate k 0) ≡ zero_from m s
unfolding zero_from
zero-behind [] m k = zero-run m k ∙ sym (none-behind m)
zero-behind (x ∷ s) zero k = ap (λ (b : Bool). eqb x 0 && b) (zero-behind s zero k)
zero-behind (x ∷ s) (suc m) k = zero-behind s m k

pub from_zero : (x : List ℕ) (n : ℕ) → zero_from (length x) (x ++ replicate n 0) ≡ true
unfolding zero_from
from_zero x n = ap all_zero (drop_at x (replicate n 0) (length x) refl) ∙ zeros n

-- ---- the count that A tells

module _ (a n : ℕ) where
  pub count-told : (m : ℕ) → count_in a n ≡ m → (m ≡ 0 → ⊥) → (a ≡ initial_value m) × (blocks m ≡ n)
  unfolding count_in
  count-told m e nonzero = by (eqb (a / 4294967296) 0xa65959a6) (fits_blocks n (a % 4294967296)) refl refl e
    where
      by : (p q : Bool) → eqb (a / 4294967296) 0xa65959a6 ≡ p → fits_blocks n (a % 4294967296) ≡ q → count_by p q (a % 4294967296) ≡ m
          → (a ≡ initial_value m) × (blocks m ≡ n)
      by true true p q f = (
        omega (arith, eqb-true (a / 4294967296) 0xa65959a6 p),
        ap blocks (sym f) ∙ eqb-true (blocks (a % 4294967296)) n q,
      )
      by true false p q f = absurd (nonzero (sym f))
      by false q p r f = absurd (nonzero (sym f))

pub told-count : (m n : ℕ) → blocks m ≡ n → n ≤ 32 → count_in (initial_value m) n ≡ m
unfolding count_in
told-count m n e h =
    simp (
      eq-eqb ((0xa65959a6 * 4294967296 + m) / 4294967296) 0xa65959a6 (omega arith),
      let z : (0xa65959a6 * 4294967296 + m) % 4294967296 ≡ m = omega arith in z,
      eq-eqb (blocks m) n e,
    )
