-- The octets of words: of a sum, of a rotated word, of a table's entry.
use mathlib.Core.Path.{◌≡◌, refl, sym, ap, ap₂, ◌∙◌, subst}
use mathlib.Core.List.{List, [], ◌∷◌}
use Prim.Native.Nat.{ℕ, ◌+◌, ◌*◌, ◌/◌, ◌%◌, ◌<◌}
use native.Mathlib.Nat.{mod-lt}
use native.Mathlib.Omega.{arith}
use lib.Dec.{lit<}
use lib.ListN.{get_or}
use lib.Bits.{bit_xor, xor_shr, xor_mod, xor_zero_r}
use Rattle.octets.specs.Numbers.{oct}
use Rattle.octets.specs.Octets.{Octets}
use Rattle.octets.proofs.Xor.{term, plus, same_sum}
use Rattle.fips197.specs.Field.{gmul}
use Rattle.fips197.specs.Steps.{mix_row}
use Rattle.fips197.proofs.Field.{gmul-lt}
use Rattle.aes.specs.inner.Word.{b0, b1, b2, b3, word_octets, word_of, ror8, ror16, ror24, column_of, last_column_of}
use Rattle.aes.specs.inner.Tables.{mixed_word, Boxed}

-- the octets of the word x are p q r t
pub record Bytes (x p q r t : ℕ) : Type 0 where
  pub at0 : b0 x ≡ p
  pub at1 : b1 x ≡ q
  pub at2 : b2 x ≡ r
  pub at3 : b3 x ≡ t

pub four_is : {x p q r t : ℕ} → Bytes x p q r t → word_octets x ≡ p ∷ q ∷ r ∷ t ∷ []
four_is u = λ i. u.at0 i ∷ u.at1 i ∷ u.at2 i ∷ u.at3 i ∷ []

pub own : (x : ℕ) → Bytes x (b0 x) (b1 x) (b2 x) (b3 x)
own x = record { at0 = refl; at1 = refl; at2 = refl; at3 = refl }

pub bytes-xor : {x y p q r t p' q' r' t' : ℕ} → Bytes x p q r t → Bytes y p' q' r' t'
    → Bytes (bit_xor x y) (bit_xor p p') (bit_xor q q') (bit_xor r r') (bit_xor t t')
bytes-xor {x} {y} u v =
    record {
      at0 = ap (λ (n : ℕ). n % 256) (xor_shr x y 24) ∙ xor_mod (x / 16777216) (y / 16777216) 8 ∙ ap₂ bit_xor u.at0 v.at0;
      at1 = ap (λ (n : ℕ). n % 256) (xor_shr x y 16) ∙ xor_mod (x / 65536) (y / 65536) 8 ∙ ap₂ bit_xor u.at1 v.at1;
      at2 = ap (λ (n : ℕ). n % 256) (xor_shr x y 8) ∙ xor_mod (x / 256) (y / 256) 8 ∙ ap₂ bit_xor u.at2 v.at2;
      at3 = xor_mod x y 8 ∙ ap₂ bit_xor u.at3 v.at3;
    }

module _ (p q r t : ℕ) (hp : p < 256) (hq : q < 256) (hr : r < 256) (ht : t < 256) where
  pub digits : Bytes (word_of p q r t) p q r t
  digits =
      record {
        at0 = ap (λ (n : ℕ). n % 256) (let z : word_of p q r t / 16777216 ≡ p = omega arith in z) ∙ (omega arith);
        at1 = ap (λ (n : ℕ). n % 256) (let z : word_of p q r t / 65536 ≡ p * 256 + q = omega arith in z) ∙ (omega arith);
        at2 = ap (λ (n : ℕ). n % 256) (let z : word_of p q r t / 256 ≡ (p * 256 + q) * 256 + r = omega arith in z) ∙ (omega arith);
        at3 = omega arith;
      }

  rotated8 : ror8 (word_of p q r t) ≡ word_of t p q r
  rotated8 = omega arith

  rotated16 : ror16 (word_of p q r t) ≡ word_of r t p q
  rotated16 = omega arith

  pub rotated24 : ror24 (word_of p q r t) ≡ word_of q r t p
  rotated24 = omega arith

-- an octet at one place of a word
module _ {x b : ℕ} (h : b < 256) (e : x ≡ b) where
  byte0 : Bytes (x * 16777216 % 4294967296) b 0 0 0
  byte0 =
      subst (λ (z : ℕ). Bytes z b 0 0 0) (let z : word_of b 0 0 0 ≡ x * 16777216 % 4294967296 = omega arith in z)
      (digits b 0 0 0 h (lit< tt) (lit< tt) (lit< tt))

  byte1 : Bytes (x * 65536 % 4294967296) 0 b 0 0
  byte1 =
      subst (λ (z : ℕ). Bytes z 0 b 0 0) (let z : word_of 0 b 0 0 ≡ x * 65536 % 4294967296 = omega arith in z)
      (digits 0 b 0 0 (lit< tt) h (lit< tt) (lit< tt))

  byte2 : Bytes (x * 256 % 4294967296) 0 0 b 0
  byte2 =
      subst (λ (z : ℕ). Bytes z 0 0 b 0) (let z : word_of 0 0 b 0 ≡ x * 256 % 4294967296 = omega arith in z)
      (digits 0 0 b 0 (lit< tt) (lit< tt) h (lit< tt))

  byte3 : Bytes x 0 0 0 b
  byte3 =
      subst (λ (z : ℕ). Bytes z 0 0 0 b) (let z : word_of 0 0 0 b ≡ x = omega arith in z)
      (digits 0 0 0 b (lit< tt) (lit< tt) (lit< tt) h)

-- four words' sum, whichever comes first
shifted_sum : (a b c d : ℕ) → bit_xor (bit_xor a b) (bit_xor c d) ≡ bit_xor (bit_xor b c) (bit_xor d a)
shifted_sum a b c d =
    same_sum (a ∷ b ∷ c ∷ d ∷ []) (plus (plus (term 0) (term 1)) (plus (term 2) (term 3)))
    (plus (plus (term 1) (term 2)) (plus (term 3) (term 0))) tt

-- t begins with a combined table: the matrix p q r t times what the box has
abbrev pub Mixing : ℕ → ℕ → ℕ → ℕ → List ℕ → List ℕ → Type 0
Mixing p q r t box w = (i : ℕ) → i < 256 → get_or w i 0 ≡ mixed_word p q r t (oct box i)

module _ (p q r t : ℕ) (b : ℕ) (h : b < 256) {x : ℕ} (e : x ≡ mixed_word p q r t b) where
  entry0 : Bytes x (gmul p b) (gmul t b) (gmul r b) (gmul q b)
  entry0 =
      subst (λ (z : ℕ). Bytes z (gmul p b) (gmul t b) (gmul r b) (gmul q b)) (sym e)
      (digits (gmul p b) (gmul t b) (gmul r b) (gmul q b) (gmul-lt p b h) (gmul-lt t b h) (gmul-lt r b h) (gmul-lt q b h))

  entry8 : Bytes (ror8 x) (gmul q b) (gmul p b) (gmul t b) (gmul r b)
  entry8 =
      subst (λ (z : ℕ). Bytes z (gmul q b) (gmul p b) (gmul t b) (gmul r b))
      (sym (ap ror8 e
      ∙ rotated8 (gmul p b) (gmul t b) (gmul r b) (gmul q b) (gmul-lt p b h) (gmul-lt t b h) (gmul-lt r b h) (gmul-lt q b h)))
      (digits (gmul q b) (gmul p b) (gmul t b) (gmul r b) (gmul-lt q b h) (gmul-lt p b h) (gmul-lt t b h) (gmul-lt r b h))

  entry16 : Bytes (ror16 x) (gmul r b) (gmul q b) (gmul p b) (gmul t b)
  entry16 =
      subst (λ (z : ℕ). Bytes z (gmul r b) (gmul q b) (gmul p b) (gmul t b))
      (sym (ap ror16 e
      ∙ rotated16 (gmul p b) (gmul t b) (gmul r b) (gmul q b) (gmul-lt p b h) (gmul-lt t b h) (gmul-lt r b h) (gmul-lt q b h)))
      (digits (gmul r b) (gmul q b) (gmul p b) (gmul t b) (gmul-lt r b h) (gmul-lt q b h) (gmul-lt p b h) (gmul-lt t b h))

  entry24 : Bytes (ror24 x) (gmul t b) (gmul r b) (gmul q b) (gmul p b)
  entry24 =
      subst (λ (z : ℕ). Bytes z (gmul t b) (gmul r b) (gmul q b) (gmul p b))
      (sym (ap ror24 e
      ∙ rotated24 (gmul p b) (gmul t b) (gmul r b) (gmul q b) (gmul-lt p b h) (gmul-lt t b h) (gmul-lt r b h) (gmul-lt q b h)))
      (digits (gmul t b) (gmul r b) (gmul q b) (gmul p b) (gmul-lt t b h) (gmul-lt r b h) (gmul-lt q b h) (gmul-lt p b h))

-- an octet of a word is below 256
module _ (x : ℕ) where
  pub b0-lt : b0 x < 256
  b0-lt = mod-lt (x / 16777216) (lit< tt)

  pub b1-lt : b1 x < 256
  b1-lt = mod-lt (x / 65536) (lit< tt)

  pub b2-lt : b2 x < 256
  b2-lt = mod-lt (x / 256) (lit< tt)

  pub b3-lt : b3 x < 256
  b3-lt = mod-lt x (lit< tt)

-- a column of a round
module _ (p q r t : ℕ) (box w : List ℕ) (m : Mixing p q r t box w) (small : Octets box) (a b c d k : ℕ) where
  pub column : Bytes (column_of w a b c d k)
      (bit_xor (mix_row p q r t (oct box (b0 a)) (oct box (b1 b)) (oct box (b2 c)) (oct box (b3 d))) (b0 k))
      (bit_xor (mix_row p q r t (oct box (b1 b)) (oct box (b2 c)) (oct box (b3 d)) (oct box (b0 a))) (b1 k))
      (bit_xor (mix_row p q r t (oct box (b2 c)) (oct box (b3 d)) (oct box (b0 a)) (oct box (b1 b))) (b2 k))
      (bit_xor (mix_row p q r t (oct box (b3 d)) (oct box (b0 a)) (oct box (b1 b)) (oct box (b2 c))) (b3 k))
  column =
      let s0 : ℕ = oct box (b0 a) in
      let s1 : ℕ = oct box (b1 b) in
      let s2 : ℕ = oct box (b2 c) in
      let s3 : ℕ = oct box (b3 d) in
      let u =
      bytes-xor
      (bytes-xor
      (bytes-xor (entry0 p q r t s0 (small (b0 a)) (m (b0 a) (b0-lt a))) (entry8 p q r t s1 (small (b1 b)) (m (b1 b) (b1-lt b))))
      (bytes-xor (entry16 p q r t s2 (small (b2 c)) (m (b2 c) (b2-lt c))) (entry24 p q r t s3 (small (b3 d)) (m (b3 d) (b3-lt d)))))
      (own k) in
      record {
        at0 = u.at0;
        at1 = u.at1 ∙ ap (λ (z : ℕ). bit_xor z (b1 k)) (shifted_sum (gmul t s0) (gmul p s1) (gmul q s2) (gmul r s3));
        at2 = u.at2
            ∙ ap (λ (z : ℕ). bit_xor z (b2 k))
            (shifted_sum (gmul r s0) (gmul t s1) (gmul p s2) (gmul q s3) ∙ shifted_sum (gmul t s1) (gmul p s2) (gmul q s3) (gmul r s0));
        at3 = u.at3 ∙ ap (λ (z : ℕ). bit_xor z (b3 k)) (sym (shifted_sum (gmul p s3) (gmul q s0) (gmul r s1) (gmul t s2)));
      }

-- a column of the last round
module _ (box w : List ℕ) (at : ℕ) (small : Octets box) (boxed : Boxed box w at) (a b c d k : ℕ) where
  pub last-column : Bytes (last_column_of w at a b c d k)
      (bit_xor (oct box (b0 a)) (b0 k)) (bit_xor (oct box (b1 b)) (b1 k)) (bit_xor (oct box (b2 c)) (b2 k)) (bit_xor (oct box (b3 d)) (b3 k))
  last-column =
      let u =
      bytes-xor
      (bytes-xor
      (bytes-xor (byte0 (small (b0 a)) (boxed (b0 a) (b0-lt a))) (byte1 (small (b1 b)) (boxed (b1 b) (b1-lt b))))
      (bytes-xor (byte2 (small (b2 c)) (boxed (b2 c) (b2-lt c))) (byte3 (small (b3 d)) (boxed (b3 d) (b3-lt d)))))
      (own k) in
      record {
        at0 = u.at0 ∙ ap (λ (z : ℕ). bit_xor z (b0 k)) (xor_zero_r (bit_xor (oct box (b0 a)) 0) ∙ xor_zero_r (oct box (b0 a)));
        at1 = u.at1 ∙ ap (λ (z : ℕ). bit_xor z (b1 k)) (xor_zero_r (oct box (b1 b)));
        at2 = u.at2 ∙ ap (λ (z : ℕ). bit_xor z (b2 k)) (xor_zero_r (oct box (b2 c)));
        at3 = u.at3;
      }
