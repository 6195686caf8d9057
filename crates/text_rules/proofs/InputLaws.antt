-- Laws of what a line asks.
use Prim.Native.Nat.{ℕ, ◌+◌, ◌-◌, ◌*◌, ◌<◌, ◌≤◌}
use mathlib.Core.Path.{◌≡◌}
use mathlib.Core.List.{List, [], ◌∷◌}
use mathlib.Core.Bool.{true, false, ◌&&◌}
use native.Mathlib.Omega.{arith}
use lib.ListN.{length, take, drop, get_or, length-drop}
use lib.Seq.{take_all}
use lib.Dec.{leb}
use borrow.Author.Tests.{le-leb, lt-leb, leb-true}
use Rattle.lists.proofs.Cases.{bool_cases, and_parts}
use Rattle.text_rules.specs.Hex.{is_hex, digit_value_of, octets_of_hex, number_from}
use Rattle.text_rules.specs.Input.{is_taken, line_key, bad, frame, asked_by}

module _ (least most : ℕ) (text : List ℕ) where
  pub taken-short : length text < least → is_taken least most text ≡ false
  unfolding is_taken
  taken-short h = rw (lt-leb least (length text) h)

  pub taken-long : most < length text → is_taken least most text ≡ false
  unfolding is_taken
  taken-long h = bool_cases (leb least (length text)) (λ e. rw (e, lt-leb (length text) most h)) (λ e. rw e)

  pub taken-within : least ≤ length text → length text ≤ most → is_taken least most text ≡ is_hex text
  unfolding is_taken
  taken-within h k = rw (le-leb least (length text) h, le-leb (length text) most k)

  pub taken-bounds : is_taken least most text ≡ true → (least ≤ length text) × (length text ≤ most)
  unfolding is_taken
  taken-bounds e =
      let p = and_parts (leb least (length text) && leb (length text) most) (is_hex text) e in
      let q = and_parts (leb least (length text)) (leb (length text) most) p.0 in
      (leb-true least (length text) q.0, leb-true (length text) most q.1)

module _ (line : List ℕ) where
  pub key-taken : is_taken 0 64 line ≡ true → line_key line ≡ octets_of_hex line
  unfolding line_key
  key-taken e = rw e

  pub key-other : is_taken 0 64 line ≡ false → line_key line ≡ []
  unfolding line_key
  key-other e = rw e

  pub asked-taken : is_taken 8 32776 line ≡ true → asked_by line ≡ frame (number_from 0 (take 8 line)) (octets_of_hex (drop 8 line))
  unfolding asked_by
  asked-taken e = rw e

  pub asked-other : is_taken 8 32776 line ≡ false → asked_by line ≡ bad
  unfolding asked_by
  asked-other e = rw e

-- a part of a slice that goes to its end
pub part-rest : (k : ℕ) (l : List ℕ) → take (length l - k) (drop k l) ≡ drop k l
part-rest k l = take_all (length l - k) (drop k l) (rw length-drop (omega arith))

-- the octet that two digits write
abbrev pub pair : List ℕ → ℕ → ℕ → ℕ
pair text i j = 16 * digit_value_of (get_or text i 0) + digit_value_of (get_or text j 0)

pub tick-octets : (text : List ℕ) → 8 ≤ length text
    → number_from 0 (take 8 text) ≡ ((pair text 0 1 * 256 + pair text 2 3) * 256 + pair text 4 5) * 256 + pair text 6 7
unfolding number_from
tick-octets [] h = absurd (omega arith)
tick-octets (a ∷ []) h = absurd (omega arith)
tick-octets (a ∷ b ∷ []) h = absurd (omega arith)
tick-octets (a ∷ b ∷ c ∷ []) h = absurd (omega arith)
tick-octets (a ∷ b ∷ c ∷ d ∷ []) h = absurd (omega arith)
tick-octets (a ∷ b ∷ c ∷ d ∷ e ∷ []) h = absurd (omega arith)
tick-octets (a ∷ b ∷ c ∷ d ∷ e ∷ f ∷ []) h = absurd (omega arith)
tick-octets (a ∷ b ∷ c ∷ d ∷ e ∷ f ∷ g ∷ []) h = absurd (omega arith)
tick-octets (a ∷ b ∷ c ∷ d ∷ e ∷ f ∷ g ∷ i ∷ text) h = omega arith
