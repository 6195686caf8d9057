-- Octets that are written in hexadecimal are read back, and a text that is read is written back.
use Prim.Native.Nat.{ℕ, suc, ◌+◌, ◌*◌, ◌/◌, ◌%◌, ◌<◌}
use mathlib.Core.Path.{◌≡◌, refl, ap, ◌∙◌}
use mathlib.Core.List.{List, [], ◌∷◌}
use mathlib.Core.Bool.{true, ◌&&◌}
use native.Mathlib.Omega.{arith}
use lib.ListN.{length, get_or}
use lib.Dec.{eqb}
use borrow.Author.Tests.{eqb-true, eq-eqb}
use Rattle.lists.proofs.Cases.{never, and_parts}
use Rattle.text_rules.specs.Hex.{is_digit, digit_value_of, digit_of, are_digits, is_hex, octets_of_hex, digits_of}
use Rattle.text_rules.proofs.HexLaws.{Digit, digit-of, of-digit}

octet-back : (o : ℕ) → o < 256 → 16 * digit_value_of (digit_of (o / 16)) + digit_value_of (digit_of (o % 16)) ≡ o
octet-back o h =
    let a = (digit-of (o / 16) (omega arith)).counts in
    let b = (digit-of (o % 16) (omega arith)).counts in
    omega arith

pub read-written : (octets : List ℕ) → ((k : ℕ) → get_or octets k 0 < 256) → octets_of_hex (digits_of octets) ≡ octets
unfolding octets_of_hex digits_of
read-written [] h = refl
read-written (o ∷ octets) h = let e = octet-back o (h 0) in let r = read-written octets (λ k. h (suc k)) in cc

digits-written : (octets : List ℕ) → ((k : ℕ) → get_or octets k 0 < 256) → are_digits (digits_of octets) ≡ true
unfolding are_digits digits_of
digits-written [] h = refl
digits-written (o ∷ octets) h =
    let l : o < 256 = h 0 in
    let a = (digit-of (o / 16) (omega arith)).digit in
    let b = (digit-of (o % 16) (omega arith)).digit in
    rw (a, b) (digits-written octets (λ k. h (suc k)))

pub length-written : (octets : List ℕ) → length (digits_of octets) ≡ 2 * length octets
unfolding digits_of
length-written [] = refl
length-written (o ∷ octets) = let r = length-written octets in omega arith

pub written-hex : (octets : List ℕ) → ((k : ℕ) → get_or octets k 0 < 256) → is_hex (digits_of octets) ≡ true
unfolding is_hex
written-hex octets h =
    let e : length (digits_of octets) % 2 ≡ 0 = let l = length-written octets in omega arith in
    rw (digits-written octets h, eq-eqb (length (digits_of octets) % 2) 0 e)

-- what two digits write is their octet
two_digits : (a b : ℕ) → Digit (digit_value_of a) a → Digit (digit_value_of b) b
    → (digit_of ((16 * digit_value_of a + digit_value_of b) / 16) ≡ a) × (digit_of ((16 * digit_value_of a + digit_value_of b) % 16) ≡ b)
two_digits a b p q =
    let l = p.small in
    let k = q.small in
    let h : (16 * digit_value_of a + digit_value_of b) / 16 ≡ digit_value_of a = omega arith in
    let m : (16 * digit_value_of a + digit_value_of b) % 16 ≡ digit_value_of b = omega arith in
    (ap digit_of h ∙ p.back, ap digit_of m ∙ q.back)

-- a text of two digits and more
record Longer (a b : ℕ) (text : List ℕ) : Type 0 where
  first : is_digit a ≡ true
  second : is_digit b ≡ true
  rest : is_hex text ≡ true

longer : (a b : ℕ) (text : List ℕ) → is_hex (a ∷ b ∷ text) ≡ true → Longer a b text
unfolding is_hex are_digits
longer a b text h =
    let p = and_parts (is_digit a && (is_digit b && are_digits text)) (eqb (length (a ∷ b ∷ text) % 2) 0) h in
    let q = and_parts (is_digit a) (is_digit b && are_digits text) p.0 in
    let r = and_parts (is_digit b) (are_digits text) q.1 in
    let e = eqb-true (length (a ∷ b ∷ text) % 2) 0 p.1 in
    record { first = q.0; second = r.0; rest = rw r.1 (eq-eqb (length text % 2) 0 (omega arith)) }

pub written_read : (text : List ℕ) → is_hex text ≡ true → digits_of (octets_of_hex text) ≡ text
unfolding is_hex octets_of_hex digits_of
written_read [] h = refl
written_read (a ∷ []) h = never (eqb 1 0) (and_parts (are_digits (a ∷ [])) (eqb 1 0) h).1 refl
written_read (a ∷ b ∷ text) h =
    let p = longer a b text h in
    let d = two_digits a b (of-digit a p.first) (of-digit b p.second) in
    let x = d.0 in
    let y = d.1 in
    let r = written_read text p.rest in
    cc
