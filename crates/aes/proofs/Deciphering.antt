-- The rounds with a key's schedule for deciphering, the columns counted the other way round, are INVCIPHER(): FIPS 197, section 5.3.5.
use mathlib.Core.Path.{◌≡◌, refl, sym, ap, ap₂, ◌∙◌}
use mathlib.Core.List.{List, [], ◌∷◌}
use Prim.Native.Nat.{ℕ, zero, suc, ◌+◌, ◌*◌, ◌/◌, ◌%◌, ◌-◌, ◌<◌}
use native.Mathlib.Omega.{arith}
use lib.ListN.{length, get_or}
use lib.Bits.{bit_xor}
use Rattle.octets.specs.Numbers.{oct}
use Rattle.octets.proofs.Xor.{term, plus, same_sum}
use Rattle.octets.proofs.Generate.{gen-cong}
use Rattle.fips197.specs.Block.{block}
use Rattle.fips197.specs.Key.{rounds_of}
use Rattle.fips197.specs.Field.{gmul}
use Rattle.fips197.specs.Sbox.{inv-sbox}
use Rattle.fips197.specs.Steps.{substitute, shift_rows, under, mix_row, mix_by, add_round_key, inv_sub_bytes, inv_shift_rows, inv_mix_columns}
use Rattle.fips197.specs.Expansion.{key_expansion}
use Rattle.fips197.specs.Cipher.{round_key, inv_round, inv_rounds, inv_cipher_with, inv_cipher}
use Rattle.fips197.proofs.Field.{gmul-linear}
use Rattle.fips197.proofs.Expansion.{Sizes, sizes}
use Rattle.fips197.proofs.Sbox.{inv-sbox-octets}
use Rattle.aes.specs.declared.AesState.{AesState}
use Rattle.aes.specs.inner.Tables.{decipher_tables}
use Rattle.aes.specs.inner.Rounds.{state_octets, swapped_of, round_key_of, run_of}
use Rattle.aes.specs.inner.Schedule.{ExpandsInverse, ExpandedInverse}
use Rattle.aes.proofs.Held.{decipher-mixing, decipher-boxed}
use Rattle.aes.proofs.Running.{round_by, rounds_by, Lent, run_is}

-- ---- the columns counted the other way round

abbrev pub mirror : List ℕ → List ℕ
mirror s = block (λ i. oct s (4 * ((4 - i / 4) % 4) + i % 4))

swapped-block : (s : AesState) → state_octets (swapped_of s) ≡ mirror (state_octets s)
swapped-block s = refl

mirror-keys : (s k : List ℕ) → add_round_key (mirror s) (mirror k) ≡ mirror (add_round_key s k)
mirror-keys s k = refl

mirror-sub : (box s : List ℕ) → shift_rows (substitute box (mirror s)) ≡ mirror (substitute box (inv_shift_rows s))
mirror-sub box s = refl

mirror-mix : (p q r t : ℕ) (s : List ℕ) → mix_by p q r t (mirror s) ≡ mirror (mix_by p q r t s)
mirror-mix p q r t s = refl

-- ---- INVMIXCOLUMNS() of a sum

row-add : (p q r t a b c d e f g h : ℕ)
    → mix_row p q r t (bit_xor a e) (bit_xor b f) (bit_xor c g) (bit_xor d h) ≡ bit_xor (mix_row p q r t a b c d) (mix_row p q r t e f g h)
row-add p q r t a b c d e f g h =
    ap₂ bit_xor (ap₂ bit_xor (gmul-linear p a e) (gmul-linear q b f)) (ap₂ bit_xor (gmul-linear r c g) (gmul-linear t d h))
    ∙ same_sum (gmul p a ∷ gmul p e ∷ gmul q b ∷ gmul q f ∷ gmul r c ∷ gmul r g ∷ gmul t d ∷ gmul t h ∷ [])
    (plus (plus (plus (term 0) (term 1)) (plus (term 2) (term 3))) (plus (plus (term 4) (term 5)) (plus (term 6) (term 7))))
    (plus (plus (plus (term 0) (term 2)) (plus (term 4) (term 6))) (plus (plus (term 1) (term 3)) (plus (term 5) (term 7)))) tt

unmix-add : (s k : List ℕ) → inv_mix_columns (add_round_key s k) ≡ add_round_key (inv_mix_columns s) (inv_mix_columns k)
unmix-add s k =
    gen-cong
    (λ i. mix_row 14 11 13 9 (bit_xor (oct s i) (oct k i)) (bit_xor (under s i 1) (under k i 1)) (bit_xor (under s i 2) (under k i 2))
    (bit_xor (under s i 3) (under k i 3)))
    (λ i. bit_xor (mix_row 14 11 13 9 (oct s i) (under s i 1) (under s i 2) (under s i 3))
    (mix_row 14 11 13 9 (oct k i) (under k i 1) (under k i 2) (under k i 3)))
    (λ i. row-add 14 11 13 9 (oct s i) (under s i 1) (under s i 2) (under s i 3) (oct k i) (under k i 1) (under k i 2) (under k i 3)) 16 0

-- ---- the rounds

module _ {key t k : List ℕ} (e : t ≡ decipher_tables) (x : ExpandsInverse key k) where
  n : ℕ
  n = rounds_of key

  w : List ℕ
  w = key_expansion key

  keys : ℕ → List ℕ
  keys r = state_octets (round_key_of k r)

  lent : Lent 14 11 13 9 inv-sbox keys n t k
  unfolding n keys
  lent =
      let z : Sizes (length key) = sizes (length key) x.key-is.size in
      record {
        mixes = decipher-mixing e;
        boxed = decipher-boxed e;
        small = inv-sbox-octets;
        count = x.rounds;
        least = omega arith;
        key = λ i h. refl;
      }

  -- a round key as lent is a mirrored one
  mirrored : (r : ℕ) {y : List ℕ} → state_octets (swapped_of (round_key_of k r)) ≡ y → keys r ≡ mirror y
  unfolding keys
  mirrored r h = ap mirror h

  -- the state after r rounds from s on, mirrored, and the rounds that INVCIPHER() has left
  record Along (r : ℕ) (s : List ℕ) : Type 0 where
    at : List ℕ
    is : rounds_by 14 11 13 9 inv-sbox keys r (mirror s) ≡ mirror at
    rest : inv_rounds w (n - 1 - r) at ≡ inv_rounds w (n - 1) s

  round_is : (r : ℕ) → suc r < n → (s : List ℕ)
      → round_by 14 11 13 9 inv-sbox (keys (suc r)) (mirror s) ≡ mirror (inv_round w (n - suc r) s)
  unfolding n w
  round_is r h s =
      ap (add_round_key (mirror (inv_mix_columns (inv_sub_bytes (inv_shift_rows s))))) (mirrored (suc r) (x.between (suc r) (omega arith) h))
      ∙ ap mirror (sym (unmix-add (inv_sub_bytes (inv_shift_rows s)) (round_key w (n - suc r))))

  -- r rounds from the front, and the rest of INVCIPHER()'s
  rounds-are : (r : ℕ) → r < n → (s : List ℕ)
      → Along r s
  rounds-are zero h s =
      record { at = s; is = refl; rest = ap (λ (j : ℕ). inv_rounds w j s) (let z : n - 1 - 0 ≡ n - 1 = omega arith in z) }
  rounds-are (suc r) h s =
      let a : Along r s = rounds-are r (omega arith) s in
      record {
        at = inv_round w (n - suc r) a.at;
        is = ap (round_by 14 11 13 9 inv-sbox (keys (suc r))) a.is ∙ round_is r h a.at;
        rest =
            ap (λ (j : ℕ). inv_rounds w (n - 1 - suc r) (inv_round w j a.at)) (let z : n - suc r ≡ suc (n - 1 - suc r) = omega arith in z)
            ∙ ap (λ (j : ℕ). inv_rounds w j a.at) (let z : suc (n - 1 - suc r) ≡ n - 1 - r = omega arith in z)
            ∙ a.rest;
      }

  pub deciphered : (s : AesState) → state_octets (swapped_of (run_of t k (swapped_of s))) ≡ inv_cipher key (state_octets s)
  unfolding inv_cipher inv_cipher_with n w
  deciphered s =
      let z : Sizes (length key) = sizes (length key) x.key-is.size in
      let s₀ : List ℕ = add_round_key (state_octets s) (round_key w n) in
      let a : Along (n - 1) s₀ = rounds-are (n - 1) (omega arith) s₀ in
      ap mirror
      (run_is lent (swapped_of s)
      ∙ ap₂ (λ (u v : List ℕ). add_round_key (shift_rows (substitute inv-sbox u)) v)
      (ap (rounds_by 14 11 13 9 inv-sbox keys (n - 1)) (ap (add_round_key (mirror (state_octets s))) (mirrored 0 x.first)) ∙ a.is)
      (mirrored n x.last))
      ∙ ap (λ (u : List ℕ). add_round_key (inv_sub_bytes (inv_shift_rows u)) (round_key w 0))
      (ap (λ (j : ℕ). inv_rounds w j a.at) (let y : 0 ≡ n - 1 - (n - 1) = omega arith in y) ∙ a.rest)

-- the count of rounds in some key's schedule
pub its-inverse-rounds : {k : List ℕ} → ExpandedInverse k → (9 < get_or k 60 0) × (get_or k 60 0 < 15)
its-inverse-rounds {k} x =
    let z : Sizes (length x.key) = sizes (length x.key) x.expands.key-is.size in
    (omega (arith, x.expands.rounds), omega (arith, x.expands.rounds))
