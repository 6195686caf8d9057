-- GHASH over the additional data, the ciphertext and their lengths in turn is GHASH of all of them joined.
use mathlib.Core.Path.{◌≡◌, refl, sym, ap, ap₂, ◌∙◌}
use mathlib.Core.Logic.{◌⊎◌, inl, inr}
use mathlib.Core.List.{List, [], ◌∷◌, ◌++◌}
use Prim.Native.Nat.{ℕ, zero, suc, ◌+◌, ◌*◌, ◌/◌, ◌-◌, ◌^◌, ◌<◌, ◌≤◌}
use native.Mathlib.Nat.{zero-add, suc-add, add-sub_of_le}
use native.Mathlib.Omega.{arith}
use lib.ListN.{length, get_or, drop, replicate, length-append}
use lib.ListN.{length-drop, length-replicate, get_or-append, get_or-eq_default, get_or-replicate}
use lib.Seq.{get_or-append-add, get_or-drop, drop-append-le, drop_at}
use lib.Bits.{bit_xor}
use Rattle.lists.proofs.Cases.{lt-cases}
use Rattle.octets.specs.Numbers.{oct, number, octets_of}
use Rattle.octets.proofs.Numerals.{number_same, number_append}
use Rattle.octets.proofs.RoundTrip.{length-octets, number-octets, number-add}
use Rattle.fips197.specs.Cipher.{cipher}
use Rattle.sp800_38d.specs.Product.{product}
use Rattle.sp800_38d.specs.Ghash.{block_numbers, ghash_from, ghash}
use Rattle.sp800_38d.specs.Encryption.{most_text, most_data, hash_subkey, blocks_in, padded_to_blocks, hash_input}

-- blocks of octets that agree, also past the end
blocks-same : (n : ℕ) (s t : List ℕ) → ((k : ℕ) → oct s k ≡ oct t k) → block_numbers n s ≡ block_numbers n t
unfolding block_numbers
blocks-same zero s t f = refl
blocks-same (suc n) s t f =
    ap₂ (λ (x : ℕ) (l : List ℕ). x ∷ l) (number_same 16 s t (λ k h. f k))
    (blocks-same n (drop 16 s) (drop 16 t) (λ k. get_or-drop 16 s k 0 ∙ f (16 + k) ∙ sym (get_or-drop 16 t k 0)))

-- whole blocks, and what follows them
blocks-join : (n m : ℕ) (s t : List ℕ) → length s ≡ 16 * n → block_numbers (n + m) (s ++ t) ≡ block_numbers n s ++ block_numbers m t
unfolding block_numbers
blocks-join zero m [] t e = ap (λ (k : ℕ). block_numbers k t) (zero-add m)
blocks-join zero m (x ∷ s) t e = let q : suc (length s) ≡ 16 * 0 = e in absurd (omega arith)
blocks-join (suc n) m s t e =
    ap (λ (k : ℕ). block_numbers k (s ++ t)) (suc-add n m)
    ∙ ap₂ (λ (x : ℕ) (l : List ℕ). x ∷ l) (number_append 16 0 s t (omega arith))
    (ap (block_numbers (n + m)) (drop-append-le 16 s t (omega arith))
    ∙ blocks-join n m (drop 16 s) t (length-drop 16 s ∙ omega arith))

from-join : (h y : ℕ) (p q : List ℕ) → ghash_from h y (p ++ q) ≡ ghash_from h (ghash_from h y p) q
unfolding ghash_from
from-join h y [] q = refl
from-join h y (x ∷ p) q = from-join h (product (bit_xor y x) h) p q

zero-at : (n i : ℕ) → (i < n) ⊎ (n ≤ i) → ◌≡◌ {A = ℕ} (get_or (replicate n 0) i 0) 0
zero-at n i (inl h) = get_or-replicate {A = ℕ} n i 0 0 h
zero-at n i (inr h) = get_or-eq_default (replicate {A = ℕ} n 0) 0 (let e = length-replicate {A = ℕ} n 0 in omega (arith, e, h))

zeros-behind : (s : List ℕ) (n i : ℕ) → (i < length s) ⊎ (length s ≤ i) → oct (s ++ replicate n 0) i ≡ oct s i
zeros-behind s n i (inl h) = get_or-append s (replicate n 0) 0 i h
zeros-behind s n i (inr h) =
    ap (oct (s ++ replicate n 0)) (sym (add-sub_of_le h))
    ∙ get_or-append-add s (replicate n 0) (i - length s) 0
    ∙ zero-at n (i - length s) (lt-cases (i - length s) n inl inr)
    ∙ sym (get_or-eq_default s 0 h)

module _ (s : List ℕ) where
  length-padded : length (padded_to_blocks s) ≡ 16 * blocks_in (length s)
  unfolding padded_to_blocks
  length-padded =
      length-append s (replicate (16 * blocks_in (length s) - length s) 0)
      ∙ ap (λ (k : ℕ). length s + k) (length-replicate {A = ℕ} (16 * blocks_in (length s) - length s) 0)
      ∙ omega arith

  padded-blocks : (n : ℕ) → block_numbers n (padded_to_blocks s) ≡ block_numbers n s
  unfolding padded_to_blocks
  padded-blocks n =
      blocks-same n (s ++ replicate (16 * blocks_in (length s) - length s) 0) s
      (λ i. zeros-behind s (16 * blocks_in (length s) - length s) i (lt-cases i (length s) inl inr))

module _ (x y : ℕ) (hx : x < 256 ^ 8) (hy : y < 256 ^ 8) where
  pub two-lengths : number 16 (octets_of 8 x ++ octets_of 8 y) ≡ x * 2 ^ 64 + y
  two-lengths =
      number-add 8 8 (octets_of 8 x ++ octets_of 8 y)
      ∙ ap₂ (λ (p q : ℕ). p * 2 ^ 64 + q)
      (number_append 8 0 (octets_of 8 x) (octets_of 8 y) (omega (arith, length-octets 8 x)) ∙ number-octets 8 x hx)
      (ap (number 8) (drop_at (octets_of 8 x) (octets_of 8 y) 8 (length-octets 8 x)) ∙ number-octets 8 y hy)

-- a block of two numbers, by the octets that they give
pub pair_is : (hi lo : ℕ) {b : List ℕ} → hi < 2 ^ 64 → lo < 2 ^ 64 → octets_of 8 hi ++ octets_of 8 lo ≡ b → hi * 2 ^ 64 + lo ≡ number 16 b
pair_is hi lo hh hl e = sym (two-lengths hi lo hh hl) ∙ ap (number 16) e

pub subkey-is : (key : List ℕ) (hi lo : ℕ) → hi < 2 ^ 64 → lo < 2 ^ 64
    → octets_of 8 hi ++ octets_of 8 lo ≡ cipher key (octets_of 8 0 ++ octets_of 8 0) → hi * 2 ^ 64 + lo ≡ hash_subkey key
unfolding hash_subkey octets_of
subkey-is key hi lo hh hl e = pair_is hi lo hh hl e

module _ (h : ℕ) (a c : List ℕ) (ha : length a ≤ most_data) (hc : length c ≤ most_text) where
  abbrev na : ℕ
  na = blocks_in (length a)

  abbrev nc : ℕ
  nc = blocks_in (length c)

  abbrev lengths : List ℕ
  lengths = octets_of 8 (8 * length a) ++ octets_of 8 (8 * length c)

  length-lengths : length lengths ≡ 16
  length-lengths =
      length-append (octets_of 8 (8 * length a)) (octets_of 8 (8 * length c))
      ∙ ap₂ (λ (m n : ℕ). m + n) (length-octets 8 (8 * length a)) (length-octets 8 (8 * length c))

  how-many : length (hash_input a c) / 16 ≡ na + (nc + 1)
  unfolding hash_input
  how-many =
      let e = length-append (padded_to_blocks a) (padded_to_blocks c ++ lengths) in
      let f = length-append (padded_to_blocks c) lengths in
      let t : length (padded_to_blocks a ++ (padded_to_blocks c ++ lengths)) ≡ 16 * (na + (nc + 1)) = omega
      (arith, e, f, length-padded a, length-padded c, length-lengths) in
      ap (λ (n : ℕ). n / 16) t ∙ omega arith

  in-turn : block_numbers (na + (nc + 1)) (hash_input a c) ≡ block_numbers na a ++ (block_numbers nc c ++ (number 16 lengths ∷ []))
  unfolding hash_input block_numbers
  in-turn =
      blocks-join na (nc + 1) (padded_to_blocks a) (padded_to_blocks c ++ lengths) (length-padded a)
      ∙ ap₂ (λ (p q : List ℕ). p ++ q) (padded-blocks a na)
      (blocks-join nc 1 (padded_to_blocks c) lengths (length-padded c)
      ∙ ap (λ (p : List ℕ). p ++ (number 16 lengths ∷ [])) (padded-blocks c nc))

  -- what is hashInput in turn: x after the additional data, y after the ciphertext, then the lengths
  pub hash-joined : {x y z : ℕ} → x ≡ ghash_from h 0 (block_numbers na a) → y ≡ ghash_from h x (block_numbers nc c)
      → z ≡ product (bit_xor y (8 * length a * 2 ^ 64 + 8 * length c)) h → z ≡ ghash h (hash_input a c)
  unfolding ghash ghash_from
  hash-joined {x} {y} {z} ex ey ez =
      ez
      ∙ ap₂ (λ (p q : ℕ). product (bit_xor p q) h) (ey ∙ ap (λ (p : ℕ). ghash_from h p (block_numbers nc c)) ex)
      (sym (two-lengths (8 * length a) (8 * length c) (omega arith) (omega arith)))
      ∙ sym (from-join h (ghash_from h 0 (block_numbers na a)) (block_numbers nc c) (number 16 lengths ∷ []))
      ∙ sym (from-join h 0 (block_numbers na a) (block_numbers nc c ++ (number 16 lengths ∷ [])))
      ∙ sym (ap (ghash_from h 0) (ap (λ (n : ℕ). block_numbers n (hash_input a c)) how-many ∙ in-turn))
