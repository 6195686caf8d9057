-- Lines that a newline ends, and what is left of one that was cut.
use native.Mathlib.Omega.{arith}
use Prim.Native.Nat.{ℕ, zero, suc, ◌+◌}
use mathlib.Core.Path.{◌≡◌, refl, ap}
use mathlib.Core.Bool.{true}
use mathlib.Core.List.{List, [], ◌∷◌, ◌++◌}
use borrow.Author.Tests.{ne_eqb, eqb-false}
use lib.Dec.{eqb}
use lib.ListN.{take}
use Rattle.lists.specs.Lists.{count}
use Rattle.lists.proofs.Cases.{bool_cases, never, and_parts}
use Rattle.text_rules.specs.Hex.{is_digit, are_digits, is_hex}
use Rattle.text_lines.proofs.LineLaws.{NoNewline}
use Rattle.journal_rules.specs.Claims.{lines_ended}

-- hexadecimal text has no newline
no_digit : (c : ℕ) → is_digit c ≡ true → c ≡ 10 → ⊥
unfolding is_digit
no_digit c h e = never (is_digit c) h (ap is_digit e)

digits-plain : (s : List ℕ) → are_digits s ≡ true → NoNewline s
unfolding are_digits
digits-plain [] h = tt
digits-plain (c ∷ s) h = let p = and_parts (is_digit c) (are_digits s) h in (no_digit c p.0, digits-plain s p.1)

pub hex-plain : (s : List ℕ) → is_hex s ≡ true → NoNewline s
unfolding is_hex
hex-plain s h = digits-plain s (and_parts (are_digits s) _ h).0

pub plain-take : (k : ℕ) (s : List ℕ) → NoNewline s → NoNewline (take k s)
plain-take zero s p = tt
plain-take (suc k) [] p = tt
plain-take (suc k) (c ∷ s) p = (p.0, plain-take k s p.1)

-- how many lines end, by whether a newline stands there
pub plain-none : (s : List ℕ) → NoNewline s → lines_ended s ≡ 0
unfolding count
plain-none [] p = refl
plain-none (c ∷ s) p = rw (ne_eqb c 10 p.0) (plain-none s p.1)

pub none-plain : (s : List ℕ) → lines_ended s ≡ 0 → NoNewline s
unfolding count
none-plain [] e = tt
none-plain (c ∷ s) e =
    bool_cases (eqb c 10) (λ q. let z : lines_ended s + 1 ≡ 0 = rw q at e in absurd (omega arith))
    (λ q. (eqb-false c 10 q, none-plain s (rw q at e)))

pub one-more-ended : (s rest : List ℕ) → NoNewline s → lines_ended (s ++ (10 ∷ rest)) ≡ suc (lines_ended rest)
unfolding count
one-more-ended [] rest p = omega arith
one-more-ended (c ∷ s) rest p = rw (ne_eqb c 10 p.0) (one-more-ended s rest p.1)
