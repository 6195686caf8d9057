-- What the policies give the member, where numbers 4 and 5 leave one delay and one first Message ID at most: the greatest is their sum.
use Prim.Native.Nat.{ℕ, suc, ◌+◌, ◌≤◌}
use mathlib.Core.Path.{◌≡◌, refl, ap, sym, ◌∙◌}
use mathlib.Core.List.{List, [], ◌∷◌, ◌++◌, append-nil, flat_map}
use mathlib.Core.Bool.{Bool, true, false, cond}
use native.Mathlib.Omega.{arith}
use borrow.Author.Tests.{lt-ltb}
use lib.ListN.{length}
use lib.Dec.{ltb}
use Rattle.lists.specs.Lists.{any, count}
use Rattle.lists.proofs.Cases.{bool_cases, never, or-none}
use Rattle.wire_policies.specs.Policy.{GroupSaPolicy, GroupWidePolicy}
use Rattle.rules_refusals.specs.Contents.{several}
use Rattle.rules_refusals.specs.Fitness.{is_rekey, sum}
use Rattle.check_composition.specs.inner.Numbers.{greatest}
use Rattle.check_composition.specs.inner.Facts.{given_by}
use Rattle.check_composition.proofs.NumberLaws.{greater-none}

total : List ℕ → ℕ
total l = sum (λ (n : ℕ). n) l

several-two : {A P : Type 0} (a b : A) (l : List A) → several (a ∷ b ∷ l) ≡ false → P
several-two a b l e =
    never (ltb 1 (suc (suc (length l)))) (lt-ltb 1 (suc (suc (length l))) (omega arith)) e

one-total : (l : List ℕ) → several l ≡ false → total l ≡ greatest l
unfolding total sum greatest
one-total [] e = refl
one-total (n ∷ []) e = (let z : n + 0 ≡ n = omega arith in z) ∙ sym (greater-none n)
one-total (n ∷ m ∷ l) e = several-two n m l e

-- what one list gives
pub sum-given : (l : List ℕ) → several l ≡ false → sum (λ (n : ℕ). n) l ≡ greatest l
unfolding total
sum-given l e = one-total l e

-- ---- the deactivation delay
pub delay-given : (l : List GroupWidePolicy) → several l ≡ false → any (λ (w : GroupWidePolicy). several w.deactivation_delays) l ≡ false
    → sum (λ (w : GroupWidePolicy). sum (λ (d : ℕ). d) w.deactivation_delays) l
    ≡ greatest (flat_map (λ (w : GroupWidePolicy). w.deactivation_delays) l)
unfolding total sum flat_map any greatest
delay-given [] e f = refl
delay-given (w ∷ []) e f =
    let d = w.deactivation_delays in
    let g = or-none (several d) false f in
    (let z : total d + 0 ≡ total d = omega arith in z) ∙ one-total d g.0 ∙ ap greatest (sym (append-nil d))
delay-given (w ∷ v ∷ l) e f = several-two w v l e

-- ---- the first Message ID of the Rekey policy
abbrev sum_of : GroupSaPolicy → ℕ
sum_of a = cond (is_rekey a) (sum (λ (i : ℕ). i) a.initial_message_ids) 0

none-given : (l : List GroupSaPolicy) → count is_rekey l ≡ 0 → (sum sum_of l ≡ 0) × (flat_map given_by l ≡ [])
unfolding sum flat_map count
none-given [] e = (refl, refl)
none-given (a ∷ l) e =
    let n = count is_rekey l in
    let by : (c : Bool) → is_rekey a ≡ c → cond c (n + 1) n ≡ 0 = λ c b. ap (λ (d : Bool). cond d (n + 1) n) (sym b) ∙ e in
    bool_cases (is_rekey a) (λ b. let z : n + 1 ≡ 0 = by true b in absurd (omega arith))
    (λ b.
    let r = none-given l (by false b) in (
      ap (λ (c : Bool). cond c (sum (λ (i : ℕ). i) a.initial_message_ids) 0 + sum sum_of l) b
          ∙ (let z : 0 + sum sum_of l ≡ 0 = omega (arith, r.0) in z),
      ap (λ (c : Bool). cond c a.initial_message_ids [] ++ flat_map given_by l) b ∙ r.1,
    ))

pub initial-given : (l : List GroupSaPolicy) → count is_rekey l ≤ 1 → any (λ (a : GroupSaPolicy). several a.initial_message_ids) l ≡ false
    → sum (λ (a : GroupSaPolicy). cond (is_rekey a) (sum (λ (i : ℕ). i) a.initial_message_ids) 0) l ≡ greatest (flat_map given_by l)
unfolding total sum flat_map any count greatest
initial-given [] h e = refl
initial-given (a ∷ l) h e =
    let n = count is_rekey l in
    let ids = a.initial_message_ids in
    let g = or-none (several ids) (any (λ (x : GroupSaPolicy). several x.initial_message_ids) l) e in
    let by : (c : Bool) → is_rekey a ≡ c → cond c (n + 1) n ≤ 1 = λ c b. rw b at h in
    bool_cases (is_rekey a)
    (λ b.
    let few : n + 1 ≤ 1 = by true b in
    let r = none-given l (omega arith) in
    (λ i. cond (b i) (total ids) 0 + r.0 i) ∙ (let z : total ids + 0 ≡ total ids = omega arith in z) ∙ one-total ids g.0
    ∙ ap greatest (sym (append-nil ids)) ∙ sym (λ i. greatest (cond (b i) ids [] ++ r.1 i)))
    (λ b.
    let few : n ≤ 1 = by false b in
    (λ i. cond (b i) (total ids) 0 + sum sum_of l) ∙ (let z : 0 + sum sum_of l ≡ sum sum_of l = omega arith in z) ∙ initial-given l few g.1
    ∙ sym (λ i. greatest (cond (b i) ids [] ++ flat_map given_by l)))
