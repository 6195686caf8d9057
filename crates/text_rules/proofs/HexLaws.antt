-- Laws of hexadecimal text: what a character's range tells of it, and the round trip.
use Prim.Native.Nat.{ℕ, ◌+◌, ◌-◌, ◌*◌, ◌/◌, ◌%◌, ◌<◌, ◌≤◌}
use mathlib.Core.Path.{◌≡◌, refl, ap, sym, subst, ◌∙◌}
use mathlib.Core.List.{List, [], ◌∷◌}
use mathlib.Core.Bool.{Bool, true, false, cond, ◌&&◌, ◌||◌}
use native.Mathlib.Omega.{arith}
use lib.ListN.{length, get_or, drop, length-drop, drop_of_length-le}
use lib.Dec.{leb, eqb}
use borrow.Author.Tests.{le-leb, lt-leb, lt-ltb, le-ltb, leb-true}
use Rattle.lists.proofs.Cases.{bool_cases, lt-cases, never, and_parts}
use Rattle.text_rules.specs.Hex.{in_range, is_decimal, is_letter, is_digit, digit_value_of, digit_of, are_digits, is_hex, octets_of_hex, digits_of}
use Rattle.text_rules.proofs.Cases.{at_place}

module _ (low high c : ℕ) where
  pub inside : low ≤ c → c ≤ high → in_range low high c ≡ true
  inside l h = rw (le-leb low c l, le-leb c high h)

  pub below : c < low → in_range low high c ≡ false
  below l = rw (lt-leb low c l)

  pub above : high < c → in_range low high c ≡ false
  above h = bool_cases (leb low c) (λ e. rw (e, lt-leb c high h)) (λ e. rw e)

  range : in_range low high c ≡ true → (low ≤ c) × (c ≤ high)
  range e =
      let p = and_parts (leb low c) (leb c high) e in
      (leb-true low c p.0, leb-true c high p.1)

module _ (c : ℕ) {d l : Bool} (p : is_decimal c ≡ d) (q : is_letter c ≡ l) where
  pub digit-by : is_digit c ≡ (d || l)
  unfolding is_digit
  digit-by = rw (p, q)

  pub value-by : digit_value_of c ≡ cond d (c - 48) (cond l (c - 87) 0)
  unfolding digit_value_of
  value-by = rw (p, q)

-- what is known of a character by its range
pub record Known (c : ℕ) (is : Bool) (v : ℕ) : Type 0 where
  pub digit : is_digit c ≡ is
  pub value : digit_value_of c ≡ v

module _ (c : ℕ) where
  pub decimals : 48 ≤ c → c ≤ 57 → Known c true (c - 48)
  decimals h k =
      let d = inside 48 57 c h k in
      let l = below 97 102 c (omega arith) in
      record { digit = digit-by c d l; value = value-by c d l }

  pub letters : 97 ≤ c → c ≤ 102 → Known c true (c - 87)
  letters h k =
      let d = above 48 57 c (omega arith) in
      let l = inside 97 102 c h k in
      record { digit = digit-by c d l; value = value-by c d l }

-- a value and its digit
pub record Digit (v c : ℕ) : Type 0 where
  pub digit : is_digit c ≡ true
  pub counts : digit_value_of c ≡ v
  pub small : v < 16
  pub back : digit_of v ≡ c

pub decimal_digit : (v : ℕ) → v < 10 → Digit v (48 + v)
unfolding digit_of
decimal_digit v h =
    let k = decimals (48 + v) (omega arith) (omega arith) in
    let e : 48 + v - 48 ≡ v = omega arith in
    record { digit = k.digit; counts = k.value ∙ e; small = omega arith; back = rw (lt-ltb v 10 h) }

pub letter-digit : (v : ℕ) → 10 ≤ v → v < 16 → Digit v (87 + v)
unfolding digit_of
letter-digit v h l =
    let k = letters (87 + v) (omega arith) (omega arith) in
    let e : 87 + v - 87 ≡ v = omega arith in
    record { digit = k.digit; counts = k.value ∙ e; small = l; back = rw (le-ltb v 10 h) }

pub digit-of : (v : ℕ) → v < 16 → Digit v (digit_of v)
digit-of v h =
    lt-cases v 10 (λ l. let g = decimal_digit v l in subst (Digit v) (sym g.back) g)
    (λ l. let g = letter-digit v l h in subst (Digit v) (sym g.back) g)

-- every digit is its value's
pub of-digit : (c : ℕ) → is_digit c ≡ true → Digit (digit_value_of c) c
unfolding is_digit
of-digit c e = bool_cases (is_decimal c) decimal (λ d. bool_cases (is_letter c) letter (λ l. never (is_digit c) e (rw (d, l))))
  where
    from : (v : ℕ) (k : ℕ) → k ≡ c → Digit v k → Digit (digit_value_of c) c
    from v k q g = subst (λ (x : ℕ). Digit x c) (sym g'.counts) g'
      where
        g' : Digit v c
        g' = subst (Digit v) q g

    decimal : is_decimal c ≡ true → Digit (digit_value_of c) c
    decimal d = let r = range 48 57 c d in from (c - 48) (48 + (c - 48)) (omega arith) (decimal_digit (c - 48) (omega arith))

    letter : is_letter c ≡ true → Digit (digit_value_of c) c
    letter l = let r = range 97 102 c l in from (c - 87) (87 + (c - 87)) (omega arith) (letter-digit (c - 87) (omega arith) (omega arith))

-- what a digit counts, with no question which it is; another character counts nothing
pub digit_value : (c : ℕ) → is_digit c ≡ true → c % 16 + 9 * (c / 64) ≡ digit_value_of c
digit_value c e =
    bool_cases (is_decimal c)
    (λ d.
    let r = range 48 57 c d in
    let v : c % 16 + 9 * (c / 64) ≡ c - 48 = omega arith in v ∙ sym (decimals c r.0 r.1).value)
    (λ d.
    bool_cases (is_letter c)
    (λ l.
    let r = range 97 102 c l in
    let v : c % 16 + 9 * (c / 64) ≡ c - 87 = omega arith in v ∙ sym (letters c r.0 r.1).value)
    (λ l. never (is_digit c) e (digit-by c d l)))

pub other-value : (c : ℕ) → is_digit c ≡ false → 0 ≡ digit_value_of c
other-value c e =
    bool_cases (is_decimal c) (λ d. never (is_digit c) (digit-by c d refl) e)
    (λ d. bool_cases (is_letter c) (λ l. never (is_digit c) (digit-by c d l) e) (λ l. sym (value-by c d l)))

-- the loops over text and octets, one step at a place
module _ (text : List ℕ) (i : ℕ) where
  -- so far all are digits or not; one character more; none is left
  pub digits_more : (so_far one : Bool) → i < length text → one ≡ is_digit (get_or text i 0) →
      are_digits text ≡ (so_far && are_digits (drop i text)) → are_digits text ≡ ((so_far && one) && are_digits (drop (i + 1) text))
  unfolding are_digits
  digits_more so_far one h e w =
      w ∙ ap (λ (l : List ℕ). so_far && are_digits l) (at_place text i h)
      ∙ ap (λ (b : Bool). so_far && (b && are_digits (drop (i + 1) text))) (sym e) ∙ by so_far
    where
      by : (b : Bool) → (b && (one && are_digits (drop (i + 1) text))) ≡ ((b && one) && are_digits (drop (i + 1) text))
      by true = refl
      by false = refl

  pub digits-end : (so_far : Bool) → length text ≤ i → (so_far && are_digits (drop i text)) ≡ so_far
  unfolding are_digits
  digits-end so_far h = ap (λ (l : List ℕ). so_far && are_digits l) (drop_of_length-le text h) ∙ by so_far
    where
      by : (b : Bool) → (b && true) ≡ b
      by true = refl
      by false = refl

  pub written-more : i < length text
      → digits_of (drop i text) ≡ digit_of (get_or text i 0 / 16) ∷ digit_of (get_or text i 0 % 16) ∷ digits_of (drop (i + 1) text)
  unfolding digits_of
  written-more h = ap digits_of (at_place text i h)

  pub written-end : length text ≤ i → digits_of (drop i text) ≡ []
  unfolding digits_of
  written-end h = ap digits_of (drop_of_length-le text h)

pub read_more : (text : List ℕ) (i : ℕ) → i + 1 < length text
    → octets_of_hex (drop i text) ≡ (16 * digit_value_of (get_or text i 0) + digit_value_of (get_or text (i + 1) 0)) ∷ octets_of_hex (drop (i + 2) text)
unfolding octets_of_hex
read_more text i h =
    let e : i + 1 + 1 ≡ i + 2 = omega arith in
    ap octets_of_hex (at_place text i (omega arith) ∙ ap (λ (l : List ℕ). get_or text i 0 ∷ l) (at_place text (i + 1) h))
    ∙ ap (λ (k : ℕ). (16 * digit_value_of (get_or text i 0) + digit_value_of (get_or text (i + 1) 0)) ∷ octets_of_hex (drop k text)) e

short : (l : List ℕ) → length l < 2 → octets_of_hex l ≡ []
unfolding octets_of_hex
short [] k = refl
short (a ∷ []) k = refl
short (a ∷ b ∷ l) k = absurd (omega arith)

pub read-end : (text : List ℕ) (i : ℕ) → length text - i < 2 → octets_of_hex (drop i text) ≡ []
read-end text i h = short (drop i text) (rw length-drop h)

module _ (text : List ℕ) where
  pub hex-even : are_digits text ≡ true → is_hex text ≡ eqb (length text % 2) 0
  unfolding is_hex
  hex-even e = rw e

  pub hex-other : are_digits text ≡ false → is_hex text ≡ false
  unfolding is_hex
  hex-other e = rw e
