-- OPENING IS DECIDED: what wrapped octets can open to under a key is what unwrapping makes of them, and wrapping that again tells.
use native.Mathlib.Omega.{arith}
use native.Mathlib.Decide.{ℕ_discrete, dec_le, dec_lt}
use Prim.Native.Nat.{ℕ, zero, suc, ◌*◌, ◌-◌, ◌/◌, ◌≤◌, ◌<◌}
use mathlib.Core.Path.{◌≡◌, refl, ap, ap₂, sym, ◌∙◌, subst}
use mathlib.Core.Logic.{◌⊎◌, inl, inr, ⊎_elim, by_cases}
use mathlib.Core.List.{List, [], ◌∷◌, List-discrete}
use lib.ListN.{length, take, drop, get_or, replicate}
use lib.Seq.{take_at}
use Rattle.octets.specs.Octets.{Octets}
use Rattle.fips197.specs.Key.{Key}
use Rattle.rfc5649.specs.Wrap.{blocks, pad_to_blocks, registers, register_octets, start_registers, initial_value, wrap_of}
use Rattle.rfc5649.specs.Opens.{Opens}
use Rattle.rfc5649.specs.inner.Unwrap.{backward}
use Rattle.rfc5649.proofs.Wrapping.{length-wrapped, unwrapped, padded-is}

-- what unwrapping makes of the octets
abbrev registers_of : List ℕ → List ℕ → List ℕ
registers_of key w = backward key (length w / 8 - 1) (registers (suc (length w / 8 - 1)) w)

abbrev candidate : List ℕ → List ℕ → List ℕ
candidate key w = take (get_or (registers_of key w) 0 0 - initial_value 0) (register_octets (drop 1 (registers_of key w)))

only-candidate : (key w y : List ℕ) → Key key → Opens key w y → y ≡ candidate key w
unfolding start_registers pad_to_blocks
only-candidate key w y is h =
    let n : blocks (length y) ≡ length w / 8 - 1 = let z = length-wrapped key w y is h in omega arith in
    let s : registers_of key w ≡ start_registers y =
    ap (λ (k : ℕ). backward key k (registers (suc k) w)) (sym n) ∙ unwrapped key w y is h in
    let m : get_or (registers_of key w) 0 0 - initial_value 0 ≡ length y =
    ap (λ (l : List ℕ). get_or l 0 0 - initial_value 0) s ∙ (let z : initial_value (length y) - initial_value 0 ≡ length y = omega arith in z) in
    let b : register_octets (drop 1 (registers_of key w)) ≡ pad_to_blocks y =
    ap (λ (l : List ℕ). register_octets (drop 1 l)) s ∙ padded-is key w y is h in
    sym (take_at y (replicate (8 * blocks (length y) - length y) 0) (length y) refl) ∙ sym (ap₂ (λ (k : ℕ) (l : List ℕ). take k l) m b)

octets-cases : (x : List ℕ) → Octets x ⊎ (Octets x → ⊥)
octets-cases [] = inl (λ i. omega arith)
octets-cases (a ∷ x) =
    by_cases (dec_lt a 256) (λ h. ⊎_elim (λ o. inl (join a x h o)) (λ f. inr (λ o. f (λ i. o (suc i)))) (octets-cases x))
    (λ h. inr (λ o. h (o 0)))
  where
    join : (a : ℕ) (x : List ℕ) → a < 256 → Octets x → Octets (a ∷ x)
    join a x h o zero = h
    join a x h o (suc i) = o i

-- `wrapped` opens under the key, or it does not
abbrev pub Decided : List ℕ → List ℕ → Type 0
Decided key wrapped = ((x : List ℕ) × Opens key wrapped x) ⊎ ((x : List ℕ) → Opens key wrapped x → ⊥)

decided-by : (key wrapped x : List ℕ) → ((y : List ℕ) → Opens key wrapped y → y ≡ x) → Decided key wrapped
decided-by key wrapped x same =
    by_cases (dec_le 1 (length x))
    (λ a.
    by_cases (dec_le (length x) 256)
    (λ b.
    ⊎_elim
    (λ c.
    by_cases (List-discrete ℕ_discrete (wrap_of key x) wrapped) (λ d. inl (x, record { least = a; most = b; octets = c; wraps = d }))
    (λ d. inr (λ y o. d (ap (wrap_of key) (sym (same y o)) ∙ o.wraps))))
    (λ c. inr (λ y o. c (subst Octets (same y o) o.octets))) (octets-cases x))
    (λ b. inr (λ y o. b (subst (λ (z : List ℕ). length z ≤ 256) (same y o) o.most))))
    (λ a. inr (λ y o. a (subst (λ (z : List ℕ). 1 ≤ length z) (same y o) o.least)))

pub opens-decided : (key wrapped : List ℕ) → Key key → Decided key wrapped
opens-decided key wrapped is = decided-by key wrapped (candidate key wrapped) (λ y o. only-candidate key wrapped y is o)
