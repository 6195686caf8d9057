-- The product by four bits at a time: it is linear, and falls into bit_sum of which each is shifted on by four places more.
use mathlib.Core.Path.{◌≡◌, refl, sym, ap, ap₂, ◌∙◌}
use Prim.Native.Nat.{ℕ, zero, suc, ◌+◌, ◌*◌, ◌/◌, ◌%◌, ◌^◌, ◌<◌}
use native.Mathlib.Nat.{mod-lt, add_comm, add-suc, add-zero, div-add-mod', not-suc-le-zero, le_of_suc-le-suc}
use native.Mathlib.Omega.{arith}
use lib.Dec.{lit<}
use lib.Bits.{bit_xor, xor_shr, xor_mod, xor_self, xor_zero_r, xor_shifted}
use Rattle.octets.proofs.Xor.{xor_assoc, xor-medial}
use Rattle.fips197.specs.Field.{mask_by}
use Rattle.sp800_38d.specs.Product.{reduction, bit, shifted, v_at, z_at}
use Rattle.gcm.specs.inner.Multiples.{bit_sum}

kept-xor : (p q x : ℕ) → p < 2 → q < 2 → mask_by (bit_xor p q) x ≡ bit_xor (mask_by p x) (mask_by q x)
kept-xor zero q x hp hq = refl
kept-xor (suc zero) zero x hp hq = sym (xor_zero_r x)
kept-xor (suc zero) (suc zero) x hp hq = sym (xor_self x)
kept-xor (suc zero) (suc (suc q)) x hp hq = absurd (not-suc-le-zero (le_of_suc-le-suc (le_of_suc-le-suc hq)))
kept-xor (suc (suc p)) q x hp hq = absurd (not-suc-le-zero (le_of_suc-le-suc (le_of_suc-le-suc hp)))

pub shifted-xor : (a b : ℕ) → shifted (bit_xor a b) ≡ bit_xor (shifted a) (shifted b)
unfolding shifted
shifted-xor a b =
    ap₂ bit_xor (xor_shr a b 1)
    (ap (λ (p : ℕ). mask_by p reduction) (xor_mod a b 1) ∙ kept-xor (a % 2) (b % 2) reduction (mod-lt a (lit< tt)) (mod-lt b (lit< tt)))
    ∙ xor-medial (a / 2) (b / 2) (mask_by (a % 2) reduction) (mask_by (b % 2) reduction)

shifted-zero : shifted 0 ≡ 0
unfolding shifted
shifted-zero = refl

-- a block shifted on n times is V_n
pub v-xor : (n a b : ℕ) → v_at (bit_xor a b) n ≡ bit_xor (v_at a n) (v_at b n)
unfolding v_at
v-xor zero a b = refl
v-xor (suc n) a b = ap shifted (v-xor n a b) ∙ shifted-xor (v_at a n) (v_at b n)

v-zero : (n : ℕ) → v_at 0 n ≡ 0
unfolding v_at
v-zero zero = refl
v-zero (suc n) = ap shifted (v-zero n) ∙ shifted-zero

v-add : (y a b : ℕ) → v_at (v_at y a) b ≡ v_at y (a + b)
unfolding v_at
v-add y a zero = ap (v_at y) (sym (add-zero a))
v-add y a (suc b) = ap shifted (v-add y a b) ∙ ap (v_at y) (sym (add-suc a b))

v-kept : (p v n : ℕ) → v_at (mask_by p v) n ≡ mask_by p (v_at v n)
v-kept zero v n = v-zero n
v-kept (suc p) v n = refl

pub z-parts : (x y n : ℕ) → z_at x y n ≡ bit_sum (bit x) y n
unfolding z_at bit_sum
z-parts x y zero = refl
z-parts x y (suc n) = ap (λ (z : ℕ). bit_xor z (mask_by (bit x n) (v_at y n))) (z-parts x y n)

-- the first a bits, and the rest shifted on by a places
pub parts_add : (f : ℕ → ℕ) (y a n : ℕ) → bit_sum f y (a + n) ≡ bit_xor (bit_sum f y a) (v_at (bit_sum (λ j. f (a + j)) y n) a)
unfolding bit_sum
parts_add f y a zero = ap (bit_sum f y) (add-zero a) ∙ sym (xor_zero_r (bit_sum f y a)) ∙ ap (bit_xor (bit_sum f y a)) (sym (v-zero a))
parts_add f y a (suc n) =
    ap (bit_sum f y) (add-suc a n)
    ∙ ap (λ (z : ℕ). bit_xor z (mask_by (f (a + n)) (v_at y (a + n)))) (parts_add f y a n)
    ∙ xor_assoc (bit_sum f y a) (v_at rest a) (mask_by (f (a + n)) (v_at y (a + n)))
    ∙ ap (λ (z : ℕ). bit_xor (bit_sum f y a) (bit_xor (v_at rest a) z)) last
    ∙ ap (bit_xor (bit_sum f y a)) (sym (v-xor a rest (mask_by (f (a + n)) (v_at y n))))
  where
    rest : ℕ
    rest = bit_sum (λ j. f (a + j)) y n

    last : mask_by (f (a + n)) (v_at y (a + n)) ≡ v_at (mask_by (f (a + n)) (v_at y n)) a
    last = ap (λ (k : ℕ). mask_by (f (a + n)) (v_at y k)) (add_comm a n) ∙ ap (mask_by (f (a + n))) (sym (v-add y n a)) ∙ sym
        (v-kept (f (a + n)) (v_at y n) a)

-- four places at once: what falls off is looked up
double : (w : ℕ) → shifted (w * 2) ≡ w
unfolding shifted
double w =
    ap₂ (λ (p q : ℕ). bit_xor p (mask_by q reduction)) (let z : w * 2 / 2 ≡ w = omega arith in z)
    (let z : w * 2 % 2 ≡ 0 = omega arith in z) ∙ xor_zero_r w

sixteen : (w : ℕ) → v_at (w * 2 ^ 4) 4 ≡ w
unfolding v_at
sixteen w =
    ap (λ (x : ℕ). shifted (shifted (shifted (shifted x)))) (let z : w * 16 ≡ w * 2 * 2 * 2 * 2 = omega arith in z)
    ∙ ap (λ (x : ℕ). shifted (shifted (shifted x))) (double (w * 2 * 2 * 2))
    ∙ ap (λ (x : ℕ). shifted (shifted x)) (double (w * 2 * 2))
    ∙ ap shifted (double (w * 2))
    ∙ double w

pub shifted-four : (z : ℕ) → v_at z 4 ≡ bit_xor (z / 16) (v_at (z % 16) 4)
shifted-four z =
    ap (λ (x : ℕ). v_at x 4) (sym (div-add-mod' z 16) ∙ sym (xor_shifted (z / 16) 4 (z % 16) (mod-lt z (lit< tt))))
    ∙ v-xor 4 (z / 16 * 2 ^ 4) (z % 16)
    ∙ ap (λ (x : ℕ). bit_xor x (v_at (z % 16) 4)) (sixteen (z / 16))
