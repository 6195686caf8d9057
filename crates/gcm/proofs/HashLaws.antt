-- GHASH over a slice: blocks from octets, and the turns of the loop.
use mathlib.Core.Path.{◌≡◌, sym, ap, ap₂, ◌∙◌}
use mathlib.Core.Logic.{◌⊎◌, inl, inr}
use mathlib.Core.List.{List, ◌++◌}
use Prim.Native.Nat.{ℕ, suc, ◌+◌, ◌*◌, ◌/◌, ◌-◌, ◌^◌, ◌<◌, ◌≤◌}
use native.Mathlib.Nat.{add-sub_of_le, le_of_eq}
use native.Mathlib.Omega.{arith}
use lib.ListN.{length, get_or, take, drop, replicate, length-drop, get_or-append, get_or-eq_default, get_or-replicate}
use lib.Seq.{take_all, take-length, get_or-append-add, get_or-drop, drop-drop}
use lib.Bits.{bit_xor, xor_block}
use Rattle.lists.proofs.Cases.{lt-cases}
use Rattle.octets.specs.Numbers.{oct, number}
use Rattle.octets.proofs.Numerals.{number_same}
use Rattle.octets.proofs.RoundTrip.{number-add}
use Rattle.sp800_38d.specs.Product.{product}
use Rattle.sp800_38d.specs.Ghash.{block_numbers, ghash_from}
use Rattle.sp800_38d.specs.Encryption.{blocks_in}
use Rattle.gcm.specs.inner.Multiples.{Multiples}

pub block-is : (s : List ℕ) (at : ℕ) {hi lo : ℕ} → hi ≡ number 8 (drop at s) → lo ≡ number 8 (drop (at + 8) s)
    → hi * 2 ^ 64 + lo ≡ number 16 (drop at s)
block-is s at a b =
    ap₂ (λ (x y : ℕ). x * 2 ^ 64 + y) a (b ∙ ap (number 8) (sym (drop-drop 8 at s))) ∙ sym (number-add 8 8 (drop at s))

abbrev zeros : List ℕ
zeros = replicate 16 0

zero-past : (n k : ℕ) → ◌≡◌ {A = ℕ} (get_or (drop n zeros) k 0) 0
zero-past n k = get_or-drop n zeros k 0 ∙ at (n + k) (lt-cases (n + k) 16 inl inr)
  where
    at : (i : ℕ) → (i < 16) ⊎ (16 ≤ i) → ◌≡◌ {A = ℕ} (get_or zeros i 0) 0
    at i (inl h) = get_or-replicate {A = ℕ} 16 i 0 0 h
    at i (inr h) = get_or-eq_default zeros 0 h

pub last-is : (s : List ℕ) {b : List ℕ} → b ≡ take (length s) s ++ drop (length s) zeros → number 16 (drop 0 b) ≡ number 16 s
last-is s {b} e = ap (number 16) (e ∙ ap (λ (t : List ℕ). t ++ drop (length s) zeros) (take-length s)) ∙ number_same 16 padded s
    (λ k h. at k (lt-cases k (length s) inl inr))
  where
    padded : List ℕ
    padded = s ++ drop (length s) zeros

    at : (k : ℕ) → (k < length s) ⊎ (length s ≤ k) → oct padded k ≡ oct s k
    at k (inl h) = get_or-append s (drop (length s) zeros) 0 k h
    at k (inr h) =
        ap (oct padded) (sym (add-sub_of_le h))
        ∙ get_or-append-add s (drop (length s) zeros) (k - length s) 0
        ∙ zero-past (length s) (k - length s)
        ∙ sym (get_or-eq_default s 0 h)

pub added-blocks : (zh zl bh bl : ℕ) → zl < 2 ^ 64 → bl < 2 ^ 64
    → bit_xor zh bh * 2 ^ 64 + bit_xor zl bl ≡ bit_xor (zh * 2 ^ 64 + zl) (bh * 2 ^ 64 + bl)
added-blocks zh zl bh bl hz hb = sym (xor_block 64 zh bh zl bl hz hb)

-- what is left to hash from an offset on
abbrev pub rest : ℕ → ℕ → List ℕ → ℕ → ℕ
rest h z s at = ghash_from h z (block_numbers (blocks_in (length s - at)) (drop at s))

-- GHASH from y on over s, where what stands before `at` is hashed, by the multiples in w
pub record Absorbing (w s : List ℕ) (y z at : ℕ) : Type 0 where
  pub inside : at ≤ length s
  pub left : (h : ℕ) → Multiples h w → rest h y s 0 ≡ rest h z s at

one_more : (h z n : ℕ) (t : List ℕ) {m : ℕ} → m ≡ suc n →
    ghash_from h z (block_numbers m t) ≡ ghash_from h (product (bit_xor z (number 16 t)) h)
    (block_numbers n (drop 16 t))
unfolding block_numbers ghash_from
one_more h z n t e = ap (λ (k : ℕ). ghash_from h z (block_numbers k t)) e

pub next-block : (h z at : ℕ) (s : List ℕ) {x z' : ℕ} → at + 16 ≤ length s → x ≡ number 16 (drop at s) → z' ≡ product (bit_xor z x) h
    → rest h z s at ≡ rest h z' s (at + 16)
next-block h z at s {x} {z'} k a b =
    one_more h z (blocks_in (length s - (at + 16))) (drop at s)
    (let q : (length s - at + 15) / 16 ≡ suc ((length s - (at + 16) + 15) / 16) = omega arith in q)
    ∙ ap₂ (λ (y : ℕ) (t : List ℕ). ghash_from h y (block_numbers (blocks_in (length s - (at + 16))) t))
    (ap (λ (n : ℕ). product (bit_xor z n) h) (sym a) ∙ sym b) (drop-drop 16 at s)

pub absorbed : (w s : List ℕ) (y z i : ℕ) {x z' : ℕ} → Absorbing w s y z (16 * i) → 16 * i + 16 ≤ length s → x ≡ number 16 (drop (16 * i) s)
    → ((h : ℕ) → Multiples h w → z' ≡ product (bit_xor z x) h) → Absorbing w s y z' (16 * (i + 1))
absorbed w s y z i {x} {z'} a k b f =
    record {
      inside = omega arith;
      left = λ h m. a.left h m ∙ next-block h z (16 * i) s k b (f h m)
          ∙ ap (rest h z' s) (let q : 16 * i + 16 ≡ 16 * (i + 1) = omega arith in q);
    }

pub last_one : (h z at : ℕ) (s : List ℕ) {x z' : ℕ} → at < length s → length s < at + 16 → x ≡ number 16 (drop at s) → z' ≡ product
    (bit_xor z x) h
    → rest h z s at ≡ z'
unfolding block_numbers ghash_from
last_one h z at s {x} {z'} k l a b =
    one_more h z 0 (drop at s) (let q : (length s - at + 15) / 16 ≡ 1 = omega arith in q)
    ∙ ap (λ (n : ℕ). product (bit_xor z n) h) (sym a) ∙ sym b

pub none_left : (h z at : ℕ) (s : List ℕ) → length s ≤ at → rest h z s at ≡ z
unfolding block_numbers ghash_from
none_left h z at s k = ap (λ (n : ℕ). ghash_from h z (block_numbers n (drop at s))) (let q : (length s - at + 15) / 16 ≡ 0 = omega arith in q)

pub from_start : (h z : ℕ) (s : List ℕ) → rest h z s 0 ≡ ghash_from h z (block_numbers (blocks_in (length s)) s)
from_start h z s = ap (λ (n : ℕ). ghash_from h z (block_numbers (blocks_in n) s)) (let q : length s - 0 ≡ length s = omega arith in q)

pub tail-is : (s : List ℕ) (at : ℕ) → take (length s - at) (drop at s) ≡ drop at s
tail-is s at = take_all (length s - at) (drop at s) (le_of_eq (length-drop at s))
