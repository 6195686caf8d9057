-- A block as two numbers of 64 bits, and as four words.
use mathlib.Core.Path.{◌≡◌, sym, ap, ap₂, ◌∙◌}
use mathlib.Core.List.{List, [], ◌∷◌, ◌++◌}
use Prim.Native.Nat.{ℕ, ◌+◌, ◌*◌, ◌/◌, ◌%◌}
use native.Mathlib.Omega.{arith}
use Rattle.octets.specs.Numbers.{octets_of}
use Rattle.aes.specs.declared.AesState.{AesState}
use Rattle.aes.specs.declared.Pair.{Pair}
use Rattle.aes.specs.inner.Word.{b0, b1, b2, b3, word_octets}
use Rattle.aes.specs.inner.Rounds.{state_octets, split_of, unite_of}

-- the octets of a word are those of its lower 32 bits
low : (x : ℕ) → word_octets (x % 4294967296) ≡ word_octets x
low x = λ i. at0 i ∷ at1 i ∷ at2 i ∷ at3 i ∷ []
  where
    at0 : b0 (x % 4294967296) ≡ b0 x
    at0 =
        sym (ap (λ (n : ℕ). n % 256) (let z : x / 16777216 ≡ x % 4294967296 / 16777216 + 256 * (x / 4294967296) = omega arith in z)
        ∙ (let z : (x % 4294967296 / 16777216 + 256 * (x / 4294967296)) % 256 ≡ x % 4294967296 / 16777216 % 256 = omega arith in z))

    at1 : b1 (x % 4294967296) ≡ b1 x
    at1 =
        sym (ap (λ (n : ℕ). n % 256) (let z : x / 65536 ≡ x % 4294967296 / 65536 + 256 * (256 * (x / 4294967296)) = omega arith in z)
        ∙ (let z : (x % 4294967296 / 65536 + 256 * (256 * (x / 4294967296))) % 256 ≡ x % 4294967296 / 65536 % 256 = omega arith in z))

    at2 : b2 (x % 4294967296) ≡ b2 x
    at2 =
        sym (ap (λ (n : ℕ). n % 256) (let z : x / 256 ≡ x % 4294967296 / 256 + 256 * (65536 * (x / 4294967296)) = omega arith in z)
        ∙ (let z : (x % 4294967296 / 256 + 256 * (65536 * (x / 4294967296))) % 256 ≡ x % 4294967296 / 256 % 256 = omega arith in z))

    at3 : b3 (x % 4294967296) ≡ b3 x
    at3 = omega arith

word-octets : (y : ℕ) → octets_of 4 y ≡ word_octets y
unfolding octets_of
word-octets y = λ i. (three i) % 256 ∷ (two i) % 256 ∷ b2 y ∷ b3 y ∷ []
  where
    two : y / 256 / 256 ≡ y / 65536
    two = omega arith

    three : y / 256 / 256 / 256 ≡ y / 16777216
    three = omega arith

-- the octets of a number of 64 bits are those of its two words
pub eight : (x : ℕ) → octets_of 8 x ≡ word_octets (x / 4294967296) ++ word_octets x
unfolding octets_of
eight x =
    ap (λ (y : ℕ). octets_of 4 y ++ octets_of 4 x) (let z : x / 256 / 256 / 256 / 256 ≡ x / 4294967296 = omega arith in z)
    ∙ ap₂ {C = List ℕ} ◌++◌ (word-octets (x / 4294967296)) (word-octets x)

pub halved : (hi lo : ℕ) → state_octets (split_of hi lo) ≡ octets_of 8 hi ++ octets_of 8 lo
unfolding split_of
halved hi lo =
    (λ i. low (hi / 4294967296) i ++ (low hi i ++ (low (lo / 4294967296) i ++ low lo i)))
    ∙ ap₂ {C = List ℕ} ◌++◌ (sym (eight hi)) (sym (eight lo))

-- a number's octets are its words'
up : (x y : ℕ) → octets_of 8 (x % 4294967296 * 4294967296 + y % 4294967296) ≡ word_octets x ++ word_octets y
up x y =
    let z : ℕ = x % 4294967296 * 4294967296 + y % 4294967296 in
    eight z
    ∙ ap₂ {C = List ℕ} ◌++◌
    (ap word_octets (let e : (x % 4294967296 * 4294967296 + y % 4294967296) / 4294967296 ≡ x % 4294967296 = omega arith in e) ∙ low x)
    (sym (low z)
    ∙ ap word_octets (let e : (x % 4294967296 * 4294967296 + y % 4294967296) % 4294967296 ≡ y % 4294967296 = omega arith in e) ∙ low y)

pub united : (s : AesState) {p : Pair} → p ≡ unite_of s → octets_of 8 p.hi ++ octets_of 8 p.lo ≡ state_octets s
unfolding unite_of
united s {p} e =
    ap (λ (q : Pair). octets_of 8 q.hi ++ octets_of 8 q.lo) e ∙ ap₂ {C = List ℕ} ◌++◌ (up s.a s.b) (up s.c s.d)
