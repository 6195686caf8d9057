-- Members of lists, tests that none or each of a list passes, and how many do.
use native.Mathlib.Omega.{arith}
use Prim.Native.Nat.{suc, ◌+◌, ◌≤◌}
use mathlib.Core.Path.{◌≡◌, refl, ap, sym, ◌∙◌}
use mathlib.Core.Bool.{Bool, true, false, ◌||◌, false≢true}
use mathlib.Core.Logic.{⊎_elim}
use mathlib.Core.List.Memᴰ
use mathlib.Core.List.{List, [], ◌∷◌, map, Memᴰ}
use lib.ListN.{length}
use Rattle.lists.specs.Lists.{all, any, count, insert}
use Rattle.lists.proofs.Cases.{bool_cases, and_parts}

pub member-map : {A B : Type 0} (g : A → B) (a : A) (l : List A) → Memᴰ a l → Memᴰ (g a) (map g l)
member-map g a [] m = absurd (Memᴰ.not-nil m)
member-map g a (b ∷ l) m =
    ⊎_elim (λ e. Memᴰ.head (ap g e)) (λ k. Memᴰ.tail (member-map g a l k)) (Memᴰ.cases_cons m)

-- ---- one of a list passes a test, and none does
pub record Passes {A : Type 0} (p : A → Bool) (l : List A) : Type 0 where
  pub one : A
  pub stands : Memᴰ one l
  pub passes : p one ≡ true

module _ {A : Type 0} (p : A → Bool) where
  pub none_passes : (l : List A) → any p l ≡ false → (a : A) → Memᴰ a l → p a ≡ false
  unfolding any
  none_passes [] e a m = absurd (Memᴰ.not-nil m)
  none_passes (b ∷ l) e a m =
      bool_cases (p b) (λ g. absurd (false≢true (sym e ∙ rw g)))
      (λ g. ⊎_elim (λ q. ap p q ∙ g) (λ k. none_passes l (rw g at e) a k) (Memᴰ.cases_cons m))

  pub passes_none : (l : List A) → ((a : A) → Memᴰ a l → p a ≡ false) → any p l ≡ false
  unfolding any
  passes_none [] f = refl
  passes_none (b ∷ l) f = rw (f b (Memᴰ.head refl)) (passes_none l (λ a m. f a (Memᴰ.tail m)))

  pub some-passes : (l : List A) → any p l ≡ true → Passes p l
  unfolding any
  some-passes [] e = absurd (false≢true e)
  some-passes (b ∷ l) e =
      bool_cases (p b) (λ g. record { one = b; stands = Memᴰ.head refl; passes = g })
      (λ g. let r = some-passes l (rw g at e) in record { one = r.one; stands = Memᴰ.tail r.stands; passes = r.passes })

  pub passes-some : (l : List A) (a : A) → Memᴰ a l → p a ≡ true → any p l ≡ true
  passes-some l a m e = bool_cases (any p l) (λ g. g) (λ g. absurd (false≢true (sym (none_passes l g a m) ∙ e)))

  pub all_pass : (l : List A) → all p l ≡ true → (a : A) → Memᴰ a l → p a ≡ true
  unfolding all
  all_pass [] e a m = absurd (Memᴰ.not-nil m)
  all_pass (b ∷ l) e a m =
      let f = and_parts (p b) (all p l) e in ⊎_elim (λ q. ap p q ∙ f.0) (λ k. all_pass l f.1 a k) (Memᴰ.cases_cons m)

  -- ---- how many pass
  pub count-le : (l : List A) → count p l ≤ length l
  unfolding count
  count-le [] = omega arith
  count-le (a ∷ l) = let h = count-le l in bool_cases (p a) (λ g. rw g (omega arith)) (λ g. rw g (omega arith))

  pub count_none : (l : List A) → count p l ≡ 0 → any p l ≡ false
  unfolding count any
  count_none [] e = refl
  count_none (a ∷ l) e =
      bool_cases (p a) (λ g. let z : count p l + 1 ≡ 0 = rw g at e in absurd (omega arith)) (λ g. rw g (count_none l (rw g at e)))

  pub none-count : (l : List A) → any p l ≡ false → count p l ≡ 0
  unfolding count any
  none-count [] e = refl
  none-count (a ∷ l) e = bool_cases (p a) (λ g. absurd (false≢true (sym e ∙ rw g))) (λ g. rw g (none-count l (rw g at e)))

  -- where as many pass as there are, each does
  pub count-full : (l : List A) → count p l ≡ length l → (a : A) → Memᴰ a l → p a ≡ true
  unfolding count
  count-full [] e a m = absurd (Memᴰ.not-nil m)
  count-full (b ∷ l) e a m =
      let h = count-le l in
      bool_cases (p b)
      (λ g.
      let k : count p l + 1 ≡ suc (length l) = rw g at e in
      ⊎_elim (λ q. ap p q ∙ g) (λ n. count-full l (omega arith) a n) (Memᴰ.cases_cons m))
      (λ g. let k : count p l ≡ suc (length l) = rw g at e in absurd (omega arith))

-- of two tests that no element passes both, either is passed by as many as each together
pub count-or : {A : Type 0} (p q : A → Bool) → ((a : A) → p a ≡ true → q a ≡ false) → (l : List A) →
    count (λ (a : A). p a || q a) l ≡ count p l + count q l
unfolding count
count-or p q f [] = refl
count-or p q f (a ∷ l) =
    let h = count-or p q f l in
    bool_cases (p a) (λ g. rw (g, f a g) (omega arith))
    (λ g. bool_cases (q a) (λ k. rw (g, k) (omega arith)) (λ k. rw (g, k) h))

-- ---- what is put in its place
pub any-insert : {A : Type 0} (before : A → A → Bool) (q : A → Bool) (a : A) (l : List A) → any q (insert before a l) ≡ (q a || any q l)
unfolding any insert
any-insert before q a [] = refl
any-insert before q a (b ∷ l) =
    let h = any-insert before q a l in
    bool_cases (before a b) (λ e. rw e)
    (λ e. bool_cases (q b) (λ f. bool_cases (q a) (λ g. rw (e, f, g)) (λ g. rw (e, f, g)))
    (λ f. bool_cases (q a) (λ g. rw (e, f, h, g)) (λ g. rw (e, f, h, g))))
