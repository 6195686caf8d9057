-- Laws of decimal numbers and printed answers.
use Prim.Native.Nat.{ℕ, zero, suc, ◌+◌, ◌-◌, ◌*◌, ◌/◌, ◌%◌, ◌^◌, ◌<◌, ◌≤◌}
use mathlib.Core.Path.{◌≡◌, refl, ap, sym, subst, ◌∙◌}
use mathlib.Core.Bool.{Bool, cond}
use mathlib.Core.List.{List, [], ◌∷◌, ◌++◌, append_assoc}
use native.Mathlib.Omega.{arith}
use native.Mathlib.Nat.{pow-suc}
use lib.ListN.{length, get_or, length-append, get_or-append}
use borrow.Author.Tests.{lt-ltb, le-ltb, eq-eqb, ne_eqb}
use Rattle.lists.proofs.Cases.{lt-cases}
use Rattle.text_rules.specs.Answer.{decimal_up_to, decimal, printed, answer_text}
use Rattle.text_lines.specs.inner.Room.{reply_room}
use Rattle.text_rules.proofs.Cases.{by-same}

one-digit : (most n : ℕ) → n < 10 → decimal_up_to (suc most) n ≡ (48 + n) ∷ []
unfolding decimal_up_to
one-digit most n h = rw (lt-ltb n 10 h)

more-digits : (most n : ℕ) → 10 ≤ n → decimal_up_to (suc most) n ≡ decimal_up_to most (n / 10) ++ ((48 + n % 10) ∷ [])
unfolding decimal_up_to
more-digits most n h = rw (le-ltb n 10 h)

-- any count that is large enough gives the same digits
enough : (k m n : ℕ) → n < k → n < m → decimal_up_to k n ≡ decimal_up_to m n
enough zero m n h l = absurd (omega arith)
enough (suc k) zero n h l = absurd (omega arith)
enough (suc k) (suc m) n h l =
    let r = enough k m (n / 10) in
    lt-cases n 10 (λ s. one-digit k n s ∙ sym (one-digit m n s))
    (λ s.
    more-digits k n s ∙ ap (λ (x : List ℕ). x ++ ((48 + n % 10) ∷ [])) (r (omega arith) (omega arith)) ∙ sym (more-digits m n s))

module _ (n : ℕ) where
  pub decimal-one : n < 10 → decimal n ≡ (48 + n) ∷ []
  unfolding decimal
  decimal-one h = one-digit n n h

  pub decimal-more : 10 ≤ n → decimal n ≡ decimal (n / 10) ++ ((48 + n % 10) ∷ [])
  unfolding decimal
  decimal-more h =
      more-digits n n h
      ∙ ap (λ (x : List ℕ). x ++ ((48 + n % 10) ∷ [])) (enough n (suc (n / 10)) (n / 10) (omega arith) (omega arith))

-- the parts of an answer's text: four numbers on number 1, else three
module _ (a b c d : ℕ) where
  three-printed : (decimal a ++ (32 ∷ [])) ++ ((decimal b ++ (32 ∷ [])) ++ (decimal c ++ (10 ∷ []))) ≡ printed (a ∷ b ∷ c ∷ [])
  unfolding printed
  three-printed = simp append_assoc

  four-printed : (decimal a ++ (32 ∷ [])) ++ ((decimal b ++ (32 ∷ [])) ++ ((decimal c ++ (32 ∷ [])) ++ (decimal d ++ (10 ∷ []))))
      ≡ printed (a ∷ b ∷ c ∷ d ∷ [])
  unfolding printed
  four-printed = simp append_assoc

  pub three-parts : (a ≡ 1 → ⊥) → (decimal a ++ (32 ∷ [])) ++ ((decimal b ++ (32 ∷ [])) ++ (decimal c ++ (10 ∷ []))) ≡ answer_text a b c d
  unfolding answer_text
  three-parts n = three-printed ∙ ap (λ (t : Bool). printed (a ∷ b ∷ c ∷ cond t (d ∷ []) [])) (sym (ne_eqb a 1 n))

  pub four-parts : a ≡ 1
      → (decimal a ++ (32 ∷ [])) ++ ((decimal b ++ (32 ∷ [])) ++ ((decimal c ++ (32 ∷ [])) ++ (decimal d ++ (10 ∷ []))))
      ≡ answer_text a b c d
  unfolding answer_text
  four-parts e = four-printed ∙ ap (λ (t : Bool). printed (a ∷ b ∷ c ∷ cond t (d ∷ []) [])) (sym (eq-eqb a 1 e))

-- a decimal text is read back
unfoldable pub decimal_from : ℕ → List ℕ → ℕ
decimal_from before [] = before
decimal_from before (c ∷ text) = decimal_from (10 * before + (c - 48)) text

decimal-snoc : (s : List ℕ) (c before : ℕ) → decimal_from before (s ++ (c ∷ [])) ≡ 10 * decimal_from before s + (c - 48)
unfolding decimal_from
decimal-snoc [] c before = refl
decimal-snoc (a ∷ s) c before = decimal-snoc s c (10 * before + (a - 48))

-- what `decimal` writes: it is read back as the number, starts with no 0 unless it is 0, and has k digits at most below 10 ^ k
pub record Decimal (n : ℕ) (text : List ℕ) : Type 0 where
  pub back : decimal_from 0 text ≡ n
  pub leading : 0 < n → 48 < get_or text 0 0
  pub some : 0 < length text

right-one : (n : ℕ) → n < 10 → Decimal n (decimal n)
unfolding decimal_from
right-one n h = subst (Decimal n) (sym (decimal-one n h)) (record { back = omega arith; leading = λ p. omega arith; some = omega arith })

right-more : (n : ℕ) → 10 ≤ n → Decimal (n / 10) (decimal (n / 10)) → Decimal n (decimal n)
right-more n h r =
    let d = decimal (n / 10) in
    let c = 48 + n % 10 in
    let e = decimal-snoc d c 0 in
    let b = r.back in
    let l = length-append d (c ∷ []) in
    let g = get_or-append d (c ∷ []) 0 0 r.some in
    let first : 48 < get_or d 0 0 = r.leading (omega arith) in
    subst (Decimal n) (sym (decimal-more n h)) (record { back = omega arith; leading = λ p. omega arith; some = omega arith })

right : (most n : ℕ) → n < most → Decimal n (decimal n)
right zero n h = absurd (omega arith)
right (suc most) n h = let r = right most (n / 10) in lt-cases n 10 (right-one n) (λ l. right-more n l (r (omega arith)))

pub decimal-right : (n : ℕ) → Decimal n (decimal n)
decimal-right n = right (suc n) n (omega arith)

pub decimal-short : (k n : ℕ) → n < 10 ^ suc k → length (decimal n) ≤ suc k
decimal-short zero n h = let e = ap length (decimal-one n h) in omega arith
decimal-short (suc k) n h =
    let p : n < 10 ^ suc k * 10 = rw pow-suc at h in
    let r = decimal-short k (n / 10) in
    lt-cases n 10 (λ l. let e = ap length (decimal-one n l) in omega arith)
    (λ l.
    let e = ap length (decimal-more n l) ∙ length-append (decimal (n / 10)) ((48 + n % 10) ∷ []) in
    let m = r (omega arith) in
    omega arith)

-- there is room for any answer's text
pub answer-short : (a b c d : ℕ) → a < 2 ^ 64 → b < 2 ^ 64 → c < 2 ^ 64 → d < 2 ^ 64 → length (answer_text a b c d) ≤ reply_room
answer-short a b c d p q r t =
    let x = decimal-short 19 a (omega arith) in
    let y = decimal-short 19 b (omega arith) in
    let z = decimal-short 19 c (omega arith) in
    let w = decimal-short 19 d (omega arith) in
    by-same a 1
    (λ h.
    let s = ap length (sym (four-parts a b c d h)) in
    let e = simp length-append at s in
    omega arith)
    (λ h.
    let s = ap length (sym (three-parts a b c d h)) in
    let e = simp length-append at s in
    omega arith)
