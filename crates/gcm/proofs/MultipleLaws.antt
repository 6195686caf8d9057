-- The turns of the product by four bits at a time.
use mathlib.Core.Path.{◌≡◌, refl, sym, ap, ap₂, ◌∙◌, subst}
use mathlib.Core.Logic.{◌⊎◌, inl, inr}
use mathlib.Core.List.{List}
use Prim.Native.Nat.{ℕ, zero, suc, ◌+◌, ◌*◌, ◌/◌, ◌%◌, ◌-◌, ◌^◌, ◌<◌, ◌≤◌}
use native.Mathlib.Nat.{le_refl, eq-or-lt_of_le}
use native.Mathlib.Omega.{arith}
use lib.ListN.{get_or, length, set, length-set}
use lib.Seq.{get_or-set_same, get_or-set_other}
use lib.Bits.{bit_xor, xor_block}
use Rattle.fips197.specs.Field.{mask_by}
use Rattle.sp800_38d.specs.Product.{bit, shifted, v_at, product}
use Rattle.gcm.specs.inner.Multiples.{bit_sum, nibble, multiple_of, digit, Multiples}
use Rattle.gcm.proofs.NibbleLaws.{z-parts, parts_add}
use Rattle.gcm.proofs.DigitLaws.{digit-bit}

pub multiple-is : (y d : ℕ) {v1 v2 v3 z1 z2 z3 r : ℕ} → v1 ≡ shifted y → v2 ≡ shifted v1 → v3 ≡ shifted v2
    → z1 ≡ bit_xor 0 (mask_by (d / 8 % 2) y) → z2 ≡ bit_xor z1 (mask_by (d / 4 % 2) v1) → z3 ≡ bit_xor z2 (mask_by (d / 2 % 2) v2)
    → r ≡ bit_xor z3 (mask_by (d % 2) v3) → r ≡ multiple_of y d
unfolding multiple_of bit_sum nibble v_at
multiple-is y d {v1} {v2} {v3} {z1} {z2} {z3} e1 e2 e3 a b c f =
    f ∙ (λ i. bit_xor (z3-is i) (mask_by (last i) (v3-is i)))
  where
    last : d % 2 ≡ d / 1 % 2
    last = omega arith

    v2-is : v2 ≡ shifted (shifted y)
    v2-is = e2 ∙ ap shifted e1

    v3-is : v3 ≡ shifted (shifted (shifted y))
    v3-is = e3 ∙ ap shifted v2-is

    z2-is : z2 ≡ bit_xor (bit_xor 0 (mask_by (d / 8 % 2) y)) (mask_by (d / 4 % 2) (shifted y))
    z2-is = b ∙ (λ i. bit_xor (a i) (mask_by (d / 4 % 2) (e1 i)))

    z3-is : z3 ≡ bit_xor (bit_xor (bit_xor 0 (mask_by (d / 8 % 2) y)) (mask_by (d / 4 % 2) (shifted y)))
        (mask_by (d / 2 % 2) (shifted (shifted y)))
    z3-is = c ∙ (λ i. bit_xor (z2-is i) (mask_by (d / 2 % 2) (v2-is i)))

pub stepped-is : (y d z : ℕ) (w : List ℕ) (h l : ℕ) → d < 16 → get_or w (2 * d + 1) 0 < 2 ^ 64 → l < 2 ^ 64
    → Multiples y w → h * 2 ^ 64 + l ≡ v_at z 4
    → bit_xor (get_or w (2 * d) 0) h * 2 ^ 64 + bit_xor (get_or w (2 * d + 1) 0) l ≡ bit_xor (multiple_of y d) (v_at z 4)
unfolding Multiples
stepped-is y d z w h l hd small hl m e =
    sym (xor_block 64 (get_or w (2 * d) 0) h (get_or w (2 * d + 1) 0) l small hl) ∙ ap₂ bit_xor (m d hd) e

parts_same : (f g : ℕ → ℕ) (y n : ℕ) → ((j : ℕ) → j < n → f j ≡ g j) → bit_sum f y n ≡ bit_sum g y n
unfolding bit_sum
parts_same f g y zero e = refl
parts_same f g y (suc n) e = λ i. bit_xor (parts_same f g y n (λ j h. e j (omega (arith, h))) i) (mask_by (e n (le_refl (suc n)) i) (v_at y n))

-- the bits of x from digit n on
abbrev pub bits_from : ℕ → ℕ → ℕ → ℕ
bits_from x n j = bit x (4 * n + j)

pub next-digit : (x y n : ℕ) {z r : ℕ} → 0 < n → n ≤ 32 → z ≡ bit_sum (bits_from x n) y (128 - 4 * n)
    → r ≡ bit_xor (multiple_of y (digit x (n - 1))) (v_at z 4) → r ≡ bit_sum (bits_from x (n - 1)) y (128 - 4 * (n - 1))
unfolding multiple_of
next-digit x y n {z} {r} h k e a =
    a
    ∙ ap₂ (λ (p q : ℕ). bit_xor p (v_at q 4))
    (parts_same (nibble (digit x (n - 1))) (bits_from x (n - 1)) y 4 (λ j hj. digit-bit x (n - 1) j (omega arith) hj))
    (e ∙ parts_same (bits_from x n) (λ j. bits_from x (n - 1) (4 + j)) y (128 - 4 * n)
    (λ j hj. ap (bit x) (let q : 4 * n + j ≡ 4 * (n - 1) + (4 + j) = omega arith in q)))
    ∙ sym (parts_add (bits_from x (n - 1)) y 4 (128 - 4 * n))
    ∙ ap (bit_sum (bits_from x (n - 1)) y) (let q : 4 + (128 - 4 * n) ≡ 128 - 4 * (n - 1) = omega arith in q)

-- the product by the multiples in w, where the digits from n on are done
pub record Multiplying (w : List ℕ) (x z n : ℕ) : Type 0 where
  pub most : n ≤ 32
  pub is : (y : ℕ) → Multiples y w → z ≡ bit_sum (bits_from x n) y (128 - 4 * n)

pub no_bits : (x y : ℕ) → 0 ≡ bit_sum (bits_from x 32) y (128 - 4 * 32)
unfolding bit_sum
no_bits x y = refl

pub all_digits : (x y n : ℕ) {z : ℕ} → n ≡ 0 → z ≡ bit_sum (bits_from x n) y (128 - 4 * n) → z ≡ product x y
unfolding product
all_digits x y n e a =
    a ∙ ap (λ (k : ℕ). bit_sum (bits_from x k) y (128 - 4 * k)) e
    ∙ parts_same (bits_from x 0) (bit x) y 128 (λ j h. ap (bit x) (let q : 4 * 0 + j ≡ j = omega arith in q))
    ∙ sym (z-parts x y 128)

-- the multiples by all below d stand in w
pub record MultiplesUpTo (y d : ℕ) (w : List ℕ) : Type 0 where
  pub most : d ≤ 16
  pub size : length w ≡ 32
  pub each : (e : ℕ) → e < d → get_or w (2 * e) 0 * 2 ^ 64 + get_or w (2 * e + 1) 0 ≡ multiple_of y e

pub filled : (y d hi lo : ℕ) (w : List ℕ) → d < 16 → MultiplesUpTo y d w → hi * 2 ^ 64 + lo ≡ multiple_of y d
    → MultiplesUpTo y (d + 1) (set (set w (2 * d) hi) (2 * d + 1) lo)
filled y d hi lo w hd f m =
    record {
      most = omega (arith, hd);
      size = length-set (set w (2 * d) hi) (2 * d + 1) lo ∙ length-set w (2 * d) hi ∙ f.size;
      each = λ e h. at e (eq-or-lt_of_le (let z : e ≤ d = omega arith in z));
    }
  where
    one : List ℕ
    one = set w (2 * d) hi

    both : List ℕ
    both = set one (2 * d + 1) lo

    even : (e : ℕ) → get_or both (2 * e) 0 ≡ get_or one (2 * e) 0
    even e = get_or-set_other one (2 * d + 1) (2 * e) lo 0 (λ q. omega (arith, q))

    here : get_or both (2 * d) 0 * 2 ^ 64 + get_or both (2 * d + 1) 0 ≡ multiple_of y d
    here =
        ap₂ (λ (p q : ℕ). p * 2 ^ 64 + q) (even d ∙ get_or-set_same w (2 * d) hi 0 (omega (arith, f.size)))
        (get_or-set_same one (2 * d + 1) lo 0 (let s = length-set w (2 * d) hi in omega (arith, f.size, s))) ∙ m

    before : (e : ℕ) → e < d → get_or both (2 * e) 0 * 2 ^ 64 + get_or both (2 * e + 1) 0 ≡ multiple_of y e
    before e h =
        ap₂ (λ (p q : ℕ). p * 2 ^ 64 + q) (even e ∙ get_or-set_other w (2 * d) (2 * e) hi 0 (λ q. omega (arith, q, h)))
        (get_or-set_other one (2 * d + 1) (2 * e + 1) lo 0 (λ q. omega (arith, q, h)) ∙ get_or-set_other w (2 * d) (2 * e + 1) hi 0
        (λ q. omega (arith, q)))
        ∙ f.each e h

    at : (e : ℕ) → (e ≡ d) ⊎ (e < d) → get_or both (2 * e) 0 * 2 ^ 64 + get_or both (2 * e + 1) 0 ≡ multiple_of y e
    at e (inl q) = subst (λ (k : ℕ). get_or both (2 * k) 0 * 2 ^ 64 + get_or both (2 * k + 1) 0 ≡ multiple_of y k) (sym q) here
    at e (inr h) = before e h

pub filled-all : (y d : ℕ) (w : List ℕ) → 16 ≤ d → MultiplesUpTo y d w → Multiples y w
unfolding Multiples
filled-all y d w h f e k = f.each e (omega (arith, h, k))
