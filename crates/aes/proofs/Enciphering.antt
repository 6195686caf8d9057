-- The rounds with a key's schedule are CIPHER().
use mathlib.Core.Path.{◌≡◌, refl, ap, ◌∙◌}
use mathlib.Core.List.{List, [], ◌∷◌}
use Prim.Native.Nat.{ℕ, zero, suc, ◌+◌, ◌*◌, ◌-◌, ◌<◌}
use native.Mathlib.Omega.{arith}
use lib.ListN.{length, get_or}
use Rattle.octets.specs.Numbers.{oct}
use Rattle.octets.specs.Octets.{Octets}
use Rattle.fips197.specs.Block.{Block}
use Rattle.fips197.specs.Key.{rounds_of}
use Rattle.fips197.specs.Sbox.{sbox}
use Rattle.fips197.specs.Steps.{sub_bytes, shift_rows, mix_columns, add_round_key}
use Rattle.fips197.specs.Expansion.{word, key_expansion}
use Rattle.fips197.specs.Cipher.{round_key, rounds, cipher_with, cipher}
use Rattle.fips197.proofs.Expansion.{Sizes, sizes}
use Rattle.fips197.proofs.Sbox.{sbox-octets}
use Rattle.fips197.proofs.Steps.{block-all}
use Rattle.aes.specs.declared.AesState.{AesState}
use Rattle.aes.specs.inner.Word.{word_octets}
use Rattle.aes.specs.inner.Tables.{encipher_tables}
use Rattle.aes.specs.inner.Rounds.{state_octets, load_of, run_of}
use Rattle.aes.specs.inner.Schedule.{Expands, Expanded}
use Rattle.aes.proofs.Bytes.{digits}
use Rattle.aes.proofs.Held.{encipher-mixing, encipher-boxed}
use Rattle.aes.proofs.Running.{rounds_by, Lent, state, run_is}

-- a block's octets, as words
pub loaded : (s : List ℕ) → Block s → state_octets (load_of s) ≡ s
unfolding load_of
loaded s b =
    let h : Octets s = b.small in
    state (digits (oct s 0) (oct s 1) (oct s 2) (oct s 3) (h 0) (h 1) (h 2) (h 3))
    (digits (oct s 4) (oct s 5) (oct s 6) (oct s 7) (h 4) (h 5) (h 6) (h 7))
    (digits (oct s 8) (oct s 9) (oct s 10) (oct s 11) (h 8) (h 9) (h 10) (h 11))
    (digits (oct s 12) (oct s 13) (oct s 14) (oct s 15) (h 12) (h 13) (h 14) (h 15))
    ∙ block-all s b

same-rounds : (w : List ℕ) (n : ℕ) (s : List ℕ) → rounds_by 2 3 1 1 sbox (round_key w) n s ≡ rounds w n s
same-rounds w zero s = refl
same-rounds w (suc n) s =
    ap (λ (x : List ℕ). add_round_key (mix_columns (shift_rows (sub_bytes x))) (round_key w (suc n))) (same-rounds w n s)

module _ {key t k : List ℕ} (e : t ≡ encipher_tables) (x : Expands key k) where
  lent : Lent 2 3 1 1 sbox (round_key (key_expansion key)) (rounds_of key) t k
  lent =
      let z : Sizes (length key) = sizes (length key) x.key-is.size in
      record {
        mixes = encipher-mixing e;
        boxed = encipher-boxed e;
        small = sbox-octets;
        count = x.rounds;
        least = omega arith;
        key = x.keys;
      }

  pub enciphered : (s : AesState) → state_octets (run_of t k s) ≡ cipher key (state_octets s)
  unfolding cipher cipher_with
  enciphered s =
      let w : List ℕ = key_expansion key in
      let n : ℕ = rounds_of key in
      run_is lent s
      ∙ ap (λ (y : List ℕ). add_round_key (shift_rows (sub_bytes y)) (round_key w n))
      (same-rounds w (n - 1) (add_round_key (state_octets s) (round_key w 0)))

-- the count of rounds in some key's schedule
pub its-rounds : {k : List ℕ} → Expanded k → (9 < get_or k 60 0) × (get_or k 60 0 < 15)
its-rounds {k} x =
    let z : Sizes (length x.key) = sizes (length x.key) x.expands.key-is.size in
    (omega (arith, x.expands.rounds), omega (arith, x.expands.rounds))

-- the last word of the expanded key, from the place that the number of rounds gives
pub last-is : (key k : List ℕ) → Expands key k →
    word_octets (get_or k (4 * get_or k 60 0 + 3) 0) ≡ word (key_expansion key) (4 * rounds_of key + 3)
last-is key k x =
    let e : List ℕ = key_expansion key in
    let n : ℕ = rounds_of key in
    ap (λ (m : ℕ). word_octets (get_or k (4 * m + 3) 0)) x.rounds
    ∙ ap (λ (s : List ℕ). oct s 12 ∷ oct s 13 ∷ oct s 14 ∷ oct s 15 ∷ []) (x.keys n (omega arith))
    ∙ (λ i. oct e (place 0 i) ∷ oct e (place 1 i) ∷ oct e (place 2 i) ∷ oct e (place 3 i) ∷ [])
  where
    place : (j : ℕ) → 16 * rounds_of key + (12 + j) ≡ 4 * (4 * rounds_of key + 3) + j
    place j = omega arith
