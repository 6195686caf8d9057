-- The tag as a block, and what comparing it tells.
use mathlib.Core.Path.{◌≡◌, refl, sym, ap, ap₂, ◌∙◌}
use mathlib.Core.Bool.{Bool, true, false}
use mathlib.Core.List.{List, ◌++◌}
use Prim.Native.Nat.{ℕ, zero, suc, ◌+◌, ◌*◌, ◌/◌, ◌%◌, ◌-◌, ◌^◌, ◌<◌, ◌≤◌}
use native.Mathlib.Nat.{zero-add}
use native.Mathlib.Omega.{arith}
use borrow.Author.Tests.{eqb-true, eqb-false, eq-eqb, ne_eqb}
use lib.Arith.{digits_lt}
use lib.Dec.{eqb}
use lib.ListN.{length, take, drop, length-append, length-drop, take-append-drop}
use lib.Seq.{take_at, drop_at, take_all}
use lib.Bits.{bit_xor, bit_or, xor_block, or_add_and, and_le_l, and_le_r, xor_self, xor_zero_l}
use Rattle.octets.specs.Numbers.{oct, number, octets_of}
use Rattle.octets.specs.Octets.{Octets}
use Rattle.octets.specs.Generate.{gen}
use Rattle.octets.proofs.Generate.{get_d-gen}
use Rattle.octets.proofs.Octets.{drop-octets}
use Rattle.octets.proofs.RoundTrip.{length-octets, octets-octets, number-octets, octets-number}
use Rattle.octets.proofs.Xor.{xor-twice}
use Rattle.fips197.specs.Key.{Key}
use Rattle.fips197.specs.Cipher.{cipher}
use Rattle.fips197.proofs.Inverse.{cipher-block}
use Rattle.sp800_38d.specs.Ghash.{ghash}
use Rattle.sp800_38d.specs.Gctr.{counter_block, key_stream, gctr}
use Rattle.sp800_38d.specs.Encryption.{hash_subkey, pre_counter_block, hash_input, tag}
use Rattle.sp800_38d.specs.Decryption.{Unseals, Decrypts}
use Rattle.sp800_38d.proofs.SealLaws.{length-tag, pre-counter-block, tag-octets}
use Rattle.sp800_38d.proofs.DecryptionLaws.{unseals-decrypts, decrypts-unseals}
use Rattle.gcm.specs.inner.Judged.{plain_in, UnsealJudged}

pub from_start : (s : List ℕ) (n : ℕ) → take (n - 0) (drop 0 s) ≡ take n s
from_start s n = ap (λ (k : ℕ). take k s) (let q : n - 0 ≡ n = omega arith in q)

-- ---- two blocks compared with no early end

or-zero : (a b : ℕ) → bit_or a b ≡ 0 → (a ≡ 0) × (b ≡ 0)
or-zero a b e =
    let s = or_add_and a b in
    let l = and_le_l a b in
    let r = and_le_r a b in
    (omega (arith, s, l, r, e), omega (arith, s, l, r, e))

xor-zero : (a b : ℕ) → bit_xor a b ≡ 0 → a ≡ b
xor-zero a b e = sym (xor-twice a b) ∙ ap (λ (x : ℕ). bit_xor x b) e ∙ xor_zero_l b

module _ (xh xl yh yl : ℕ) (hx : xl < 2 ^ 64) (hy : yl < 2 ^ 64) where
  abbrev apart : ℕ
  apart = bit_or (bit_xor xh yh) (bit_xor xl yl)

  pub compared : eqb apart 0 ≡ eqb (xh * 2 ^ 64 + xl) (yh * 2 ^ 64 + yl)
  compared = by (eqb apart 0) refl
    where
      by : (b : Bool) → eqb apart 0 ≡ b → b ≡ eqb (xh * 2 ^ 64 + xl) (yh * 2 ^ 64 + yl)
      by true e =
          let z = or-zero (bit_xor xh yh) (bit_xor xl yl) (eqb-true apart 0 e) in
          sym (eq-eqb (xh * 2 ^ 64 + xl) (yh * 2 ^ 64 + yl)
          (ap₂ (λ (p q : ℕ). p * 2 ^ 64 + q) (xor-zero xh yh z.0) (xor-zero xl yl z.1)))
      by false e =
          sym (ne_eqb (xh * 2 ^ 64 + xl) (yh * 2 ^ 64 + yl)
          (λ (q : xh * 2 ^ 64 + xl ≡ yh * 2 ^ 64 + yl).
          let u : xh ≡ yh = omega (arith, q, hx, hy) in
          let v : xl ≡ yl = omega (arith, q, hx, hy) in
          eqb-false apart 0 e
          (ap₂ bit_or (ap (λ (p : ℕ). bit_xor p yh) u ∙ xor_self yh) (ap (λ (p : ℕ). bit_xor p yl) v ∙ xor_self yl))))

-- ---- the tag's number

number-xor : (n : ℕ) (r s t : List ℕ) → Octets s → Octets t → ((k : ℕ) → k < n → oct r k ≡ bit_xor (oct s k) (oct t k))
    → number n r ≡ bit_xor (number n s) (number n t)
unfolding number
number-xor zero r s t o p f = refl
number-xor (suc n) r s t o p f =
    ap₂ (λ (x y : ℕ). x * 256 + y) (number-xor n r s t o p (λ k h. f k (omega arith))) (f n (omega arith))
    ∙ sym (xor_block 8 (number n s) (number n t) (oct s n) (oct t n) (o n) (p n))

module _ (key nonce : List ℕ) (is : Key key) (size : length nonce ≡ 12) (small : Octets nonce) where
  pub tag-number : (a c : List ℕ) (hi lo : ℕ) → hi < 2 ^ 64 → lo < 2 ^ 64 → hi * 2 ^ 64 + lo ≡ ghash (hash_subkey key) (hash_input a c)
      → number 16 (tag key nonce a c) ≡ bit_xor (hi * 2 ^ 64 + lo) (number 16 (cipher key (pre_counter_block nonce)))
  unfolding tag gctr key_stream counter_block
  tag-number a c hi lo hh hl e =
      number-xor 16 (gen f 0 (length s)) s m (octets-octets 16 v) (cipher-block is (pre-counter-block key nonce is size small)).small at
      ∙ ap (λ (x : ℕ). bit_xor x (number 16 m))
      (ap (λ (x : ℕ). number 16 (octets_of 16 x)) (sym e) ∙ number-octets 16 (hi * 2 ^ 64 + lo) (digits_lt hh hl))
    where
      v : ℕ
      v = ghash (hash_subkey key) (hash_input a c)

      s : List ℕ
      s = octets_of 16 v

      m : List ℕ
      m = cipher key (pre_counter_block nonce)

      f : ℕ → ℕ
      f i = bit_xor (oct s i) (oct (cipher key (counter_block (pre_counter_block nonce) (i / 16))) (i % 16))

      at : (k : ℕ) → k < 16 → oct (gen f 0 (length s)) k ≡ bit_xor (oct s k) (oct m k)
      at k h =
          get_d-gen (length s) 0 k f (omega (arith, length-octets 16 v))
          ∙ ap f (zero-add k)
          ∙ ap₂ (λ (i j : ℕ). bit_xor (oct s k) (oct (cipher key (counter_block (pre_counter_block nonce) i)) j))
          (let q : k / 16 ≡ 0 = omega arith in q) (let q : k % 16 ≡ k = omega arith in q)

  -- ---- what the comparison tells

  same_block : (s t : List ℕ) → length s ≡ 16 → length t ≡ 16 → Octets s → Octets t → number 16 s ≡ number 16 t → s ≡ t
  same_block s t ls lt os ot e =
      sym (take_all 16 s (omega (arith, ls))) ∙ sym (octets-number 16 s os (omega (arith, ls)))
      ∙ ap (octets_of 16) e ∙ octets-number 16 t ot (omega (arith, lt)) ∙ take_all 16 t (omega (arith, lt))

  module _ (a octets : List ℕ) (o : Octets octets) (least : 16 ≤ length octets) where
    abbrev before : ℕ
    before = length octets - 16

    abbrev text : List ℕ
    text = take before octets

    abbrev mark : List ℕ
    mark = drop before octets

    mark-size : length mark ≡ 16
    mark-size = length-drop before octets ∙ omega arith

    fit : tag key nonce a text ≡ mark → Unseals key nonce a octets (plain_in key nonce octets)
    fit e =
        decrypts-unseals key nonce a octets (plain_in key nonce octets) is size small o
        (record { c = text; t = mark; parts = take-append-drop before octets; tag-size = mark-size; plain = refl; same_tag = e })

    -- C and T are where the octets are cut
    module _ (x : List ℕ) (d : Decrypts key nonce a octets x) where
      cut : length d.c ≡ before
      cut =
          let s : length (d.c ++ d.t) ≡ length octets = ap length d.parts in
          omega (arith, s, length-append d.c d.t, d.tag-size)

      unfit : tag key nonce a text ≡ mark
      unfit =
          ap (tag key nonce a) (ap (take before) (sym d.parts) ∙ take_at d.c d.t before cut)
          ∙ d.same_tag
          ∙ sym (ap (drop before) (sym d.parts) ∙ drop_at d.c d.t before cut)

    pub judged : (b : Bool) → b ≡ eqb (number 16 (tag key nonce a text)) (number 16 mark) → UnsealJudged key nonce a octets b
    judged true e =
        fit (same_block (tag key nonce a text) mark (length-tag key nonce a text) mark-size (tag-octets key nonce is size small a text)
        (drop-octets before octets o) (eqb-true (number 16 (tag key nonce a text)) (number 16 mark) (sym e)))
    judged false e = λ x u.
        eqb-false (number 16 (tag key nonce a text)) (number 16 mark) (sym e)
        (ap (number 16) (unfit x (unseals-decrypts key nonce a octets x u)))
