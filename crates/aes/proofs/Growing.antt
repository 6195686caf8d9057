-- The key expansion word by word.
use mathlib.Core.Path.{◌≡◌, refl, sym, ap, ap₂, ◌∙◌, subst}
use mathlib.Core.Bool.{cond, ◌&&◌, and-false}
use mathlib.Core.Logic.{◌⊎◌, inl, inr}
use mathlib.Core.List.{List, [], ◌∷◌, ◌++◌}
use Prim.Native.Nat.{ℕ, zero, suc, ◌+◌, ◌*◌, ◌/◌, ◌%◌, ◌-◌, ◌<◌, ◌≤◌}
use native.Mathlib.Nat.{
  eq-or-lt_of_le,
  le_of_suc-le-suc,
  not-suc-le-zero,
  le-div_iff_mul-le,
  mod_self,
  mod-eq_of_lt,
  div_self,
  div-eq_of_lt,
  div-add-mod,
  mul-add-div,
  mul-add-mod_self_left,
}
use native.Mathlib.Omega.{arith}
use lib.Dec.{T, eqb, ltb, lit<}
use lib.ListN.{length, get_or, set, replicate, get_or-replicate, length-set, get_or-append}
use lib.Seq.{get_or-append-add, get_or-set_same, get_or-set_other}
use lib.Bits.{bit_xor, xor_zero_r}
use borrow.Author.Tests.{eq-eqb, ne_eqb, lt-ltb, le-ltb}
use Rattle.octets.specs.Numbers.{oct}
use Rattle.octets.specs.Octets.{Octets}
use Rattle.octets.proofs.Generate.{gen-same}
use Rattle.fips197.specs.Key.{is_key, words_of, rounds_of}
use Rattle.fips197.specs.Field.{xtimes, power}
use Rattle.fips197.specs.Sbox.{sbox}
use Rattle.fips197.specs.Expansion.{word, xor_word, rot_word, sub_word, rcon, temp, grow, key_expansion}
use Rattle.fips197.proofs.Field.{power-lt}
use Rattle.fips197.proofs.Sbox.{sbox-octets}
use Rattle.fips197.proofs.Expansion.{Sizes, sizes, length-grow}
use Rattle.aes.specs.inner.Word.{b0, b1, b2, b3, word_octets, word_of, ror24, last_column_of}
use Rattle.aes.specs.inner.Tables.{Boxed}
use Rattle.aes.specs.declared.expansion.WordPlace.{WordPlace}
use Rattle.aes.specs.inner.Schedule.{ZeroWords, Expands}
use Rattle.aes.specs.inner.Expanding.{ExpandedTo, Placed}
use Rattle.aes.proofs.Bytes.{Bytes, own, bytes-xor, digits, four_is, rotated24, last-column, b0-lt, b1-lt, b2-lt, b3-lt}

-- ---- the words of the expanded key

word-front : (g d : List ℕ) (n : ℕ) → 4 * n + 4 ≤ length g → word (g ++ d) n ≡ word g n
word-front g d n h =
    gen-same (λ k. oct (g ++ d) (4 * n + k)) (λ k. oct g (4 * n + k)) 4 0
    (λ k b. get_or-append g d 0 (4 * n + (0 + k)) (omega arith))

-- the word behind g
word-behind : (g d : List ℕ) (n : ℕ) → length g ≡ 4 * n → word (g ++ d) n ≡ oct d 0 ∷ oct d 1 ∷ oct d 2 ∷ oct d 3 ∷ []
word-behind g d n e = λ i. at 0 i ∷ at 1 i ∷ at 2 i ∷ at 3 i ∷ []
  where
    at : (k : ℕ) → oct (g ++ d) (4 * n + k) ≡ oct d k
    at k = ap (λ (m : ℕ). oct (g ++ d) (m + k)) (sym e) ∙ get_or-append-add g d k 0

temp-same : (nk i : ℕ) (v w : List ℕ) → word v (i - 1) ≡ word w (i - 1) → temp nk v i ≡ temp nk w i
unfolding temp
temp-same nk i v w e =
    ap (λ (x : List ℕ). cond (eqb (i % nk) 0) (xor_word (sub_word (rot_word x)) (rcon (i / nk)))
    (cond (ltb 6 nk && eqb (i % nk) 4) (sub_word x) x)) e

module _ (nk : ℕ) (key : List ℕ) (size : length key ≡ 4 * nk) (least : 1 ≤ nk) where
  -- what stands stays
  stays : (m n i : ℕ) → n ≤ m → i < nk + n → word (grow nk key m) i ≡ word (grow nk key n) i
  stays zero n i h b = ap (λ (j : ℕ). word (grow nk key j) i) (let z : 0 ≡ n = omega arith in z)
  stays (suc m) n i h b = go (λ l. stays m n i l b) (eq-or-lt_of_le h)
    where
      go : (n ≤ m → word (grow nk key m) i ≡ word (grow nk key n) i) → (n ≡ suc m) ⊎ (n < suc m)
          → word (grow nk key (suc m)) i ≡ word (grow nk key n) i
      go r (inl e) = ap (λ (j : ℕ). word (grow nk key j) i) (sym e)
      go r (inr l) =
          word-front (grow nk key m) (xor_word (word (grow nk key m) (nk + m - nk)) (temp nk (grow nk key m) (nk + m))) i
          (omega (arith, length-grow nk key m))
          ∙ r (le_of_suc-le-suc l)

  grows : (m n : ℕ) → n < m → word (grow nk key m) (nk + n) ≡ xor_word (word (grow nk key m) n) (temp nk (grow nk key m) (nk + n))
  grows m n h =
      let g : List ℕ = grow nk key n in
      stays m (suc n) (nk + n) h (omega arith)
      ∙ word-behind g (xor_word (word g (nk + n - nk)) (temp nk g (nk + n))) (nk + n) (length-grow nk key n ∙ omega arith)
      ∙ ap (λ (j : ℕ). xor_word (word g j) (temp nk g (nk + n))) (let z : nk + n - nk ≡ n = omega arith in z)
      ∙ ap₂ xor_word (sym (stays m n n (omega arith) (omega arith)))
      (temp-same nk (nk + n) g (grow nk key m) (sym (stays m n (nk + n - 1) (omega arith) (omega arith))))

module _ (key : List ℕ) (is : T (is_key (length key))) where
  pub first_word : (i : ℕ) → i < words_of key → word (key_expansion key) i ≡ word key i
  unfolding key_expansion
  first_word i h =
      let z : Sizes (length key) = sizes (length key) is in
      stays (words_of key) key z.words (omega (arith, z.least)) (4 * (rounds_of key + 1) - words_of key) 0 i (omega arith) (omega arith)

  pub next_word : (i : ℕ) → words_of key ≤ i → i < 4 * (rounds_of key + 1)
      → word (key_expansion key) i ≡ xor_word (word (key_expansion key) (i - words_of key)) (temp (words_of key) (key_expansion key) i)
  unfolding key_expansion
  next_word i h l =
      let z : Sizes (length key) = sizes (length key) is in
      let e : i ≡ words_of key + (i - words_of key) = omega arith in
      let w : List ℕ = grow (words_of key) key (4 * (rounds_of key + 1) - words_of key) in
      ap (word w) e
      ∙ grows (words_of key) key z.words (omega (arith, z.least)) (4 * (rounds_of key + 1) - words_of key) (i - words_of key) (omega arith)
      ∙ ap (λ (j : ℕ). xor_word (word w (i - words_of key)) (temp (words_of key) w j)) (sym e)

-- ---- temp

-- a word of 32 bits is that of its octets
pub whole : (x : ℕ) → x < 4294967296 → x ≡ word_of (b0 x) (b1 x) (b2 x) (b3 x)
whole x h =
    let a : x / 16777216 % 256 ≡ x / 16777216 = omega arith in
    let b : x / 65536 ≡ x / 16777216 * 256 + x / 65536 % 256 = omega arith in
    let c : x / 256 ≡ x / 65536 * 256 + x / 256 % 256 = omega arith in
    let d : x ≡ x / 256 * 256 + x % 256 = omega arith in
    d ∙ ap (λ (n : ℕ). n * 256 + b3 x) (c ∙ ap (λ (n : ℕ). n * 256 + b2 x) (b ∙ ap (λ (n : ℕ). n * 256 + b1 x) (sym a)))

rotated-bytes : (x : ℕ) → x < 4294967296 → Bytes (ror24 x) (b1 x) (b2 x) (b3 x) (b0 x)
rotated-bytes x h =
    subst (λ (y : ℕ). Bytes y (b1 x) (b2 x) (b3 x) (b0 x))
    (sym (ap ror24 (whole x h) ∙ rotated24 (b0 x) (b1 x) (b2 x) (b3 x) (b0-lt x) (b1-lt x) (b2-lt x) (b3-lt x)))
    (digits (b1 x) (b2 x) (b3 x) (b0 x) (b1-lt x) (b2-lt x) (b3-lt x) (b0-lt x))

module _ (t : List ℕ) (at : ℕ) (boxed : Boxed sbox t at) (nk x : ℕ) (p : WordPlace) where
  pub rotated : p.word ≡ 0 → x < 4294967296 → {y k r : ℕ} → y ≡ ror24 x → k ≡ word_of p.constant 0 0 0
      → r ≡ last_column_of t at y y y y k → (w : List ℕ) (i : ℕ) → Placed nk i p → word_octets x ≡ word w (i - 1) → word_octets r ≡ temp nk w i
  unfolding temp
  rotated h l {y} {k} ey ek er w i q e =
      let c : ℕ = power (i / nk - 1) in
      let u = last-column sbox t at sbox-octets boxed (ror24 x) (ror24 x) (ror24 x) (ror24 x) (word_of c 0 0 0) in
      let v = rotated-bytes x l in
      let d = digits c 0 0 0 (power-lt (i / nk - 1)) (lit< tt) (lit< tt) (lit< tt) in
      ap word_octets
      (er ∙ ap₂ (λ (a b : ℕ). last_column_of t at a a a a b) ey (ek ∙ ap (λ (a : ℕ). word_of a 0 0 0) q.rcon))
      ∙ four_is u
      ∙ (λ j. bit_xor (oct sbox (v.at0 j)) (d.at0 j) ∷ bit_xor (oct sbox (v.at1 j)) (d.at1 j) ∷ bit_xor (oct sbox (v.at2 j)) (d.at2 j)
      ∷ bit_xor (oct sbox (v.at3 j)) (d.at3 j) ∷ [])
      ∙ ap (λ (a : List ℕ). xor_word (sub_word (rot_word a)) (rcon (i / nk))) e
      ∙ sym (simp (eq-eqb _ _ (sym q.among ∙ h)))

  pub subbed : (p.word ≡ 0 → ⊥) → 6 < nk → p.word ≡ 4 → {r : ℕ} → r ≡ last_column_of t at x x x x 0
      → (w : List ℕ) (i : ℕ) → Placed nk i p → word_octets x ≡ word w (i - 1) → word_octets r ≡ temp nk w i
  unfolding temp
  subbed h l m er w i q e =
      let u = last-column sbox t at sbox-octets boxed x x x x 0 in
      ap word_octets er ∙ four_is u
      ∙ (λ j. xor_zero_r (oct sbox (b0 x)) j ∷ xor_zero_r (oct sbox (b1 x)) j ∷ xor_zero_r (oct sbox (b2 x)) j
      ∷ xor_zero_r (oct sbox (b3 x)) j ∷ [])
      ∙ ap sub_word e
      ∙ sym (simp (ne_eqb _ _ (λ z. h (q.among ∙ z)), lt-ltb _ _ l, eq-eqb _ _ (sym q.among ∙ m)))

module _ (nk x : ℕ) (p : WordPlace) where
  pub left-long : (p.word ≡ 0 → ⊥) → (p.word ≡ 4 → ⊥) → (w : List ℕ) (i : ℕ) → Placed nk i p → word_octets x ≡ word w (i - 1)
      → word_octets x ≡ temp nk w i
  unfolding temp
  left-long h m w i q e = e ∙ sym (simp (ne_eqb _ _ (λ z. h (q.among ∙ z)), ne_eqb _ _ (λ z. m (q.among ∙ z)), and-false))

  pub left-short : (p.word ≡ 0 → ⊥) → nk ≤ 6 → (w : List ℕ) (i : ℕ) → Placed nk i p → word_octets x ≡ word w (i - 1) →
      word_octets x ≡ temp nk w i
  unfolding temp
  left-short h l w i q e = e ∙ sym (simp (ne_eqb _ _ (λ z. h (q.among ∙ z)), le-ltb _ _ l))

-- ---- the place of a word

pub first-place : (nk : ℕ) → 1 ≤ nk → Placed nk nk (record { word = 0; constant = 1 })
unfolding power
first-place nk h =
    record { among = sym (mod_self nk); rcon = ap (λ (n : ℕ). power (n - 1)) (sym (div_self (let z : 0 < nk = omega arith in z))) }

module _ (nk i : ℕ) (p : WordPlace) (least : 1 ≤ nk) (past : nk ≤ i) (q : Placed nk i p) where
  split : i + 1 ≡ nk * (i / nk) + (p.word + 1)
  split = omega (arith, div-add-mod i nk, q.among)

  among_next : (i + 1) % nk ≡ (p.word + 1) % nk
  among_next = ap (λ (n : ℕ). n % nk) split ∙ mul-add-mod_self_left nk (i / nk) (p.word + 1)

  group-next : (i + 1) / nk ≡ i / nk + (p.word + 1) / nk
  group-next = ap (λ (n : ℕ). n / nk) split ∙ mul-add-div (let z : 0 < nk = omega arith in z) (i / nk) (p.word + 1)

  pub same-group : p.word + 1 < nk → Placed nk (i + 1) (record { word = p.word + 1; constant = p.constant })
  same-group h =
      record {
        among = sym (among_next ∙ mod-eq_of_lt h);
        rcon = q.rcon ∙ ap (λ (n : ℕ). power (n - 1)) (sym (group-next ∙ omega (arith, div-eq_of_lt h)));
      }

  pub next-group : p.word + 1 ≡ nk → {c : ℕ} → c ≡ xtimes p.constant → Placed nk (i + 1) (record { word = 0; constant = c })
  unfolding power
  next-group h e =
      let g : 1 ≤ i / nk = (le-div_iff_mul-le (let z : 0 < nk = omega arith in z)).1 (let z : 1 * nk ≤ i = omega arith in z) in
      let one : (p.word + 1) / nk ≡ 1 = ap (λ (n : ℕ). n / nk) h ∙ div_self (let z : 0 < nk = omega arith in z) in
      record {
        among = sym (among_next ∙ ap (λ (n : ℕ). n % nk) h ∙ mod_self nk);
        rcon = e ∙ ap xtimes q.rcon
            ∙ ap power (let z : suc (i / nk - 1) ≡ (i + 1) / nk - 1 = omega (arith, group-next, one) in z);
      }

-- ---- the words in the schedule's array

pub blank_none : (n : ℕ) → ZeroWords (replicate n 0) 0 n
blank_none n i h l = get_or-replicate n i 0 0 l

pub blank-more : (w : List ℕ) (i v n : ℕ) → ZeroWords w i n → ZeroWords (set w i v) (i + 1) n
blank-more w i v n b j h l = get_or-set_other w i j v 0 (omega arith) ∙ b j (omega arith) l

pub grown-none : (key : List ℕ) → ExpandedTo key (replicate 61 0) 0
grown-none key = record { size = refl; same = λ j h. absurd (not-suc-le-zero h); behind = blank_none 61 }

pub grown-more : (key : List ℕ) (v : ℕ) {w : List ℕ} {i : ℕ} → ExpandedTo key w i → i < 61 → word_octets v ≡ word (key_expansion key) i
    → ExpandedTo key (set w i v) (i + 1)
grown-more key v {w} {i} g h e =
    record {
      size = length-set w i v ∙ g.size;
      same = λ j b. at j (eq-or-lt_of_le (let z : j ≤ i = omega arith in z));
      behind = blank-more w i v 61 g.behind;
    }
  where
    at : (j : ℕ) → (j ≡ i) ⊎ (j < i) → word_octets (get_or (set w i v) j 0) ≡ word (key_expansion key) j
    at j (inl q) =
        ap (λ (m : ℕ). word_octets (get_or (set w i v) m 0)) q ∙ ap word_octets (get_or-set_same w i v 0 (omega (arith, g.size)))
        ∙ e ∙ ap (word (key_expansion key)) (sym q)
    at j (inr q) = ap word_octets (get_or-set_other w i j v 0 (omega arith)) ∙ g.same j q

module _ (key : List ℕ) (is : T (is_key (length key))) (small : Octets key) where
  pub from_key : (j v : ℕ) → j < words_of key
      → v ≡ word_of (oct key (4 * j)) (oct key (4 * j + 1)) (oct key (4 * j + 2)) (oct key (4 * j + 3)) →
      word_octets v ≡ word (key_expansion key) j
  from_key j v h e =
      let d = digits (oct key (4 * j)) (oct key (4 * j + 1)) (oct key (4 * j + 2)) (oct key (4 * j + 3))
      (small (4 * j)) (small (4 * j + 1)) (small (4 * j + 2)) (small (4 * j + 3)) in
      ap word_octets e ∙ four_is d
      ∙ (λ i. oct key ((let z : 4 * j ≡ 4 * j + 0 = omega arith in z) i)
      ∷ oct key (4 * j + 1) ∷ oct key (4 * j + 2) ∷ oct key (4 * j + 3) ∷ [])
      ∙ sym (first_word key is j h)

  pub from-words : (i nk : ℕ) → nk ≡ words_of key → nk ≤ i → i < 4 * (nk + 7) → {w : List ℕ} → ExpandedTo key w i → (t : ℕ)
      → ((e : List ℕ) → word_octets (get_or w (i - 1) 0) ≡ word e (i - 1) → word_octets t ≡ temp nk e i)
      → word_octets (bit_xor (get_or w (i - nk) 0) t) ≡ word (key_expansion key) i
  from-words i nk en h l {w} g t ht =
      let z : Sizes (length key) = sizes (length key) is in
      let x : ℕ = get_or w (i - nk) 0 in
      let e : List ℕ = key_expansion key in
      four_is (bytes-xor (own x) (own t))
      ∙ ap₂ xor_word (g.same (i - nk) (omega (arith, z.least))) (ht e (g.same (i - 1) (omega (arith, z.least))))
      ∙ ap (λ (m : ℕ). xor_word (word e (i - m)) (temp m e i)) en
      ∙ sym (next_word key is i (omega arith) (omega arith))

  pub all_words : (nk i : ℕ) → nk ≡ words_of key → 4 * (nk + 7) ≤ i → i ≤ 4 * (nk + 7) → i ≤ 60 → {w : List ℕ} → ExpandedTo key w i
      → Expands key (set w 60 (nk + 6))
  all_words nk i en h u b {w} g =
      record {
        key-is = record { size = is; small = small };
        size = length-set w 60 (nk + 6) ∙ g.size;
        unused = λ j l m. get_or-set_other w 60 j (nk + 6) 0 (omega arith) ∙ g.behind j (omega arith) (omega arith);
        rounds = get_or-set_same w 60 (nk + 6) 0 (omega (arith, g.size)) ∙ ap (λ (m : ℕ). m + 6) en;
        keys = λ r l. ap (λ (n : ℕ). word_octets (get_or s n 0) ++ rest r) (let z : 4 * r ≡ 4 * r + 0 = omega arith in z)
            ∙ (λ j. at r l 0 (lit< tt) j ++ (at r l 1 (lit< tt) j ++ (at r l 2 (lit< tt) j ++ at r l 3 (lit< tt) j)));
      }
    where
      s : List ℕ
      s = set w 60 (nk + 6)

      e : List ℕ
      e = key_expansion key

      rest : ℕ → List ℕ
      rest r = word_octets (get_or s (4 * r + 1) 0) ++ (word_octets (get_or s (4 * r + 2) 0) ++ word_octets (get_or s (4 * r + 3) 0))

      -- word k of round key r
      at : (r : ℕ) → r ≤ rounds_of key → (k : ℕ) → k < 4
          → word_octets (get_or s (4 * r + k) 0)
          ≡ oct e (16 * r + (4 * k + 0)) ∷ oct e (16 * r + (4 * k + 1)) ∷ oct e (16 * r + (4 * k + 2)) ∷ oct e (16 * r + (4 * k + 3)) ∷ []
      at r l k c =
          ap word_octets (get_or-set_other w 60 (4 * r + k) (nk + 6) 0 (omega arith)) ∙ g.same (4 * r + k) (omega arith)
          ∙ (λ i. oct e (place 0 i) ∷ oct e (place 1 i) ∷ oct e (place 2 i) ∷ oct e (place 3 i) ∷ [])
        where
          place : (j : ℕ) → 4 * (4 * r + k) + j ≡ 16 * r + (4 * k + j)
          place j = omega arith
