-- The schedule for deciphering from the one for enciphering: FIPS 197, section 5.3.5.
use mathlib.Core.Path.{◌≡◌, refl, sym, ap, ap₂, ◌∙◌}
use mathlib.Core.Logic.{◌⊎◌, inl, inr}
use mathlib.Core.List.{List}
use Prim.Native.Nat.{ℕ, ◌+◌, ◌*◌, ◌/◌, ◌%◌, ◌-◌, ◌<◌, ◌≤◌}
use native.Mathlib.Omega.{arith}
use lib.Dec.{lit<}
use lib.ListN.{length, get_or, set, length-set}
use lib.Seq.{get_or-set_same, get_or-set_other}
use lib.Bits.{bit_xor, xor_zero_r}
use borrow.Author.Tests.{lt-ltb, le-ltb}
use Rattle.octets.specs.Numbers.{oct}
use Rattle.octets.proofs.Fill.{StoredUpTo}
use Rattle.fips197.specs.Key.{rounds_of}
use Rattle.fips197.specs.Sbox.{sbox, inv-sbox}
use Rattle.fips197.specs.Steps.{mix_row, inv_mix_columns}
use Rattle.fips197.specs.Expansion.{key_expansion}
use Rattle.fips197.proofs.Expansion.{Sizes, sizes}
use Rattle.fips197.proofs.Sbox.{sbox-octets, inv-sbox-octets, sbox-back}
use Rattle.aes.specs.declared.AesState.{AesState}
use Rattle.aes.specs.inner.Word.{b0, b1, b2, b3, last_column_of}
use Rattle.aes.specs.inner.Tables.{decipher_tables}
use Rattle.aes.specs.inner.Rounds.{state_octets, round_key_of, swapped_of}
use Rattle.aes.specs.inner.Inverse.{unmixed_of, source_of, inverse_word_of}
use Rattle.aes.specs.inner.Schedule.{ZeroWords, Expands, ExpandsInverse}
use Rattle.aes.proofs.Bytes.{Bytes, column, last-column, b0-lt, b1-lt, b2-lt, b3-lt}
use Rattle.aes.proofs.Held.{decipher-mixing, decipher-sbox}
use Rattle.aes.proofs.Running.{state}

-- ---- the cases of a word

module _ (t w : List ℕ) (n j : ℕ) where
  pub early : j < 4 → source_of w n j ≡ inverse_word_of t w n j
  unfolding inverse_word_of
  early h = simp (lt-ltb j 4 h)

  pub middle : 4 ≤ j → j < 4 * n → unmixed_of t (source_of w n j) ≡ inverse_word_of t w n j
  unfolding inverse_word_of
  middle h k = simp (le-ltb j 4 h, lt-ltb j (4 * n) k)

  pub late : 4 ≤ j → 4 * n ≤ j → source_of w n j ≡ inverse_word_of t w n j
  unfolding inverse_word_of
  late h k = simp (le-ltb j 4 h, le-ltb j (4 * n) k)

-- ---- INVMIXCOLUMNS() of a word

abbrev row : ℕ → ℕ → ℕ → ℕ → ℕ
row a b c d = mix_row 14 11 13 9 a b c d

rows : {a b c d a' b' c' d' : ℕ} → a ≡ a' → b ≡ b' → c ≡ c' → d ≡ d' → bit_xor (row a b c d) 0 ≡ row a' b' c' d'
rows {a} {b} {c} {d} p q r t = xor_zero_r (row a b c d) ∙ (λ i. row (p i) (q i) (r i) (t i))

module _ {t : List ℕ} (e : t ≡ decipher_tables) (x : ℕ) where
  unmixed-bytes : Bytes (unmixed_of t x)
      (row (b0 x) (b1 x) (b2 x) (b3 x)) (row (b1 x) (b2 x) (b3 x) (b0 x))
      (row (b2 x) (b3 x) (b0 x) (b1 x)) (row (b3 x) (b0 x) (b1 x) (b2 x))
  unfolding unmixed_of
  unmixed-bytes =
      let y : ℕ = last_column_of t 512 x x x x 0 in
      let v = last-column sbox t 512 sbox-octets (decipher-sbox e) x x x x 0 in
      let u = column 14 11 13 9 inv-sbox t (decipher-mixing e) inv-sbox-octets y y y y 0 in
      let e0 : oct inv-sbox (b0 y) ≡ b0 x = ap (oct inv-sbox) (v.at0 ∙ xor_zero_r (oct sbox (b0 x))) ∙ sbox-back (b0 x) (b0-lt x) in
      let e1 : oct inv-sbox (b1 y) ≡ b1 x = ap (oct inv-sbox) (v.at1 ∙ xor_zero_r (oct sbox (b1 x))) ∙ sbox-back (b1 x) (b1-lt x) in
      let e2 : oct inv-sbox (b2 y) ≡ b2 x = ap (oct inv-sbox) (v.at2 ∙ xor_zero_r (oct sbox (b2 x))) ∙ sbox-back (b2 x) (b2-lt x) in
      let e3 : oct inv-sbox (b3 y) ≡ b3 x = ap (oct inv-sbox) (v.at3 ∙ xor_zero_r (oct sbox (b3 x))) ∙ sbox-back (b3 x) (b3-lt x) in
      record {
        at0 = u.at0 ∙ rows e0 e1 e2 e3;
        at1 = u.at1 ∙ rows e1 e2 e3 e0;
        at2 = u.at2 ∙ rows e2 e3 e0 e1;
        at3 = u.at3 ∙ rows e3 e0 e1 e2;
      }

-- ---- the round keys

module _ {key t w k : List ℕ} (e : t ≡ decipher_tables) (x : Expands key w) (n j : ℕ) (nr : n ≡ rounds_of key) (all : 4 * (n + 1) ≤ j)
    (end : j ≤ 4 * (n + 1)) (f : StoredUpTo 61 (inverse_word_of t w n) k j) (zeros : ZeroWords k j 61) where
  s : List ℕ
  s = set k 60 n

  most : n < 15
  most =
      let z : Sizes (length key) = sizes (length key) x.key-is.size in
      omega arith

  -- word m of round key r
  word_at : (r m : ℕ) → r ≤ n → m < 4 → get_or s (4 * r + m) 0 ≡ inverse_word_of t w n (4 * r + m)
  unfolding s
  word_at r m h b =
      get_or-set_other k 60 (4 * r + m) n 0 (omega (arith, most)) ∙ f.same (4 * r + m) (omega arith)

  source-at : (r m : ℕ) → m < 4 → source_of w n (4 * r + m) ≡ get_or w (4 * (n - r) + (4 - m) % 4) 0
  source-at r m b =
      ap₂ (λ (a c : ℕ). get_or w (4 * (n - a) + (4 - c) % 4) 0)
      (let z : (4 * r + m) / 4 ≡ r = omega arith in z) (let z : (4 * r + m) % 4 ≡ m = omega arith in z)

  end-word : (r m : ℕ) → r ≤ n → m < 4 → ((r ≡ 0) ⊎ (r ≡ n)) → get_or s (4 * r + m) 0 ≡ get_or w (4 * (n - r) + (4 - m) % 4) 0
  end-word r m h b c = word_at r m h b ∙ sym (picked c) ∙ source-at r m b
    where
      picked : ((r ≡ 0) ⊎ (r ≡ n)) → source_of w n (4 * r + m) ≡ inverse_word_of t w n (4 * r + m)
      picked (inl z) = early t w n (4 * r + m) (omega arith)
      picked (inr z) =
          let l : Sizes (length key) = sizes (length key) x.key-is.size in
          late t w n (4 * r + m) (omega arith) (omega arith)

  mid-word : (r m : ℕ) → 0 < r → r < n → m < 4 → get_or s (4 * r + m) 0 ≡ unmixed_of t (get_or w (4 * (n - r) + (4 - m) % 4) 0)
  mid-word r m g h b =
      word_at r m (omega arith) b ∙ sym (middle t w n (4 * r + m) (omega arith) (omega arith)) ∙ ap (unmixed_of t) (source-at r m b)

  -- the first of four words is read with no sum
  bare : (l : List ℕ) (r : ℕ) → get_or l (4 * r) 0 ≡ get_or l (4 * r + 0) 0
  bare l r = ap (λ (i : ℕ). get_or l i 0) (let z : 4 * r ≡ 4 * r + 0 = omega arith in z)

  end-key : (r : ℕ) → r ≤ n → ((r ≡ 0) ⊎ (r ≡ n)) → swapped_of (round_key_of s r) ≡ round_key_of w (n - r)
  end-key r h c =
      λ i. record {
        a = (bare s r ∙ end-word r 0 h (lit< tt) c ∙ sym (bare w (n - r))) i;
        b = end-word r 3 h (lit< tt) c i;
        c = end-word r 2 h (lit< tt) c i;
        d = end-word r 1 h (lit< tt) c i;
      }

  mid-key : (r : ℕ) → 0 < r → r < n → state_octets (swapped_of (round_key_of s r)) ≡ inv_mix_columns (state_octets (round_key_of w (n - r)))
  mid-key r g h =
      let q : AesState = round_key_of w (n - r) in
      ap state_octets
      (let z : swapped_of (round_key_of s r)
      ≡ record { a = unmixed_of t q.a; b = unmixed_of t q.b; c = unmixed_of t q.c; d = unmixed_of t q.d } =
      λ i. record {
        a = (bare s r ∙ mid-word r 0 g h (lit< tt) ∙ ap (unmixed_of t) (sym (bare w (n - r)))) i;
        b = mid-word r 3 g h (lit< tt) i;
        c = mid-word r 2 g h (lit< tt) i;
        d = mid-word r 1 g h (lit< tt) i;
      } in z)
      ∙ state (unmixed-bytes e q.a) (unmixed-bytes e q.b) (unmixed-bytes e q.c) (unmixed-bytes e q.d)

  pub inverted : ExpandsInverse key (set k 60 n)
  unfolding s
  inverted =
      let v : List ℕ = key_expansion key in
      record {
        key-is = x.key-is;
        size = length-set k 60 n ∙ f.size;
        unused = λ i l m. get_or-set_other k 60 i n 0 (omega arith) ∙ zeros i (omega arith) (omega arith);
        rounds = get_or-set_same k 60 n 0 (omega (arith, f.size)) ∙ nr;
        first = ap state_octets (end-key 0 (omega arith) (inl refl))
            ∙ ap (λ (i : ℕ). state_octets (round_key_of w i)) (let z : n - 0 ≡ rounds_of key = omega arith in z)
            ∙ x.keys (rounds_of key) (omega arith);
        between = λ r g h. mid-key r g (omega arith)
            ∙ ap (λ (i : ℕ). inv_mix_columns (state_octets (round_key_of w (i - r)))) nr
            ∙ ap inv_mix_columns (x.keys (rounds_of key - r) (omega arith));
        last = ap (λ (i : ℕ). state_octets (swapped_of (round_key_of s i))) (sym nr) ∙ ap state_octets (end-key n (omega arith) (inr refl))
            ∙ ap (λ (i : ℕ). state_octets (round_key_of w i)) (let z : n - n ≡ 0 = omega arith in z) ∙ x.keys 0 (omega arith);
      }
