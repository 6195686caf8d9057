-- Tests on lists: one that passes, by what it is, and in two lists at once.
use Prim.Native.Nat.{ℕ}
use mathlib.Core.Path.{◌≡◌, refl, ap, sym, ◌∙◌}
use mathlib.Core.List.{List, [], ◌∷◌}
use mathlib.Core.Bool.{Bool, true, false, ◌||◌, ◌&&◌}
use borrow.Author.Tests.{eq-eqb, ne_eqb, eqb-true, eqb-false}
use lib.Dec.{eqb}
use Rattle.octets.specs.Compare.{same}
use Rattle.octets.proofs.Order.{same-eq, eq-same}
use Rattle.lists.specs.Lists.{any, keep}
use Rattle.lists.proofs.Cases.{bool_cases, never}

-- ---- the same both ways round
pub same-swap : (x y : List ℕ) → same x y ≡ same y x
same-swap x y =
    bool_cases (same x y) (λ e. e ∙ sym (eq-same y x (sym (same-eq x y e))))
    (λ e. bool_cases (same y x) (λ f. never (same x y) (eq-same x y (sym (same-eq y x f))) e) (λ f. e ∙ sym f))

pub eqb_swap : (m n : ℕ) → eqb m n ≡ eqb n m
eqb_swap m n =
    bool_cases (eqb m n) (λ e. e ∙ sym (eq-eqb n m (sym (eqb-true m n e)))) (λ e. e ∙ sym (ne_eqb n m (λ q. eqb-false m n e (sym q))))

-- ---- one that passes
module _ {A : Type 0} where
  pub any-keep : (p q : A → Bool) (l : List A) → any p (keep q l) ≡ any (λ (a : A). q a && p a) l
  unfolding any keep
  any-keep p q [] = refl
  any-keep p q (a ∷ l) =
      bool_cases (q a) (λ e. rw e (ap (λ (b : Bool). p a || b) (any-keep p q l))) (λ e. rw e (any-keep p q l))

  -- where one passes, so does one by a weaker test
  pub any-weaker : (p q : A → Bool) → ((a : A) → p a ≡ true → q a ≡ true) → (l : List A) → any p l ≡ true → any q l ≡ true
  unfolding any
  any-weaker p q h [] e = e
  any-weaker p q h (a ∷ l) e =
      bool_cases (p a) (λ f. rw (h a f)) (λ f. bool_cases (q a) (λ g. rw g) (λ g. rw g (any-weaker p q h l (rw f at e))))

  -- one passes this test, and none that
  pub any-pick : {R : Type 0} (p q : A → Bool) → ((a : A) → p a ≡ true → q a ≡ false → R) → (l : List A) → any p l ≡ true →
      any q l ≡ false → R
  unfolding any
  any-pick p q h [] e f = never true refl (sym e)
  any-pick p q h (a ∷ l) e f =
      bool_cases (q a) (λ g. never true refl (sym (rw g) ∙ f))
      (λ g. bool_cases (p a) (λ k. h a k g) (λ k. any-pick p q h l (rw k at e) (rw g at f)))

any-never : {A : Type 0} (l : List A) → false ≡ any (λ (a : A). false) l
unfolding any
any-never [] = refl
any-never (a ∷ l) = any-never l

or-four : (x y u v : Bool) → ((x || u) || (y || v)) ≡ ((x || y) || (u || v))
or-four true y u v = refl
or-four false true true v = refl
or-four false true false v = refl
or-four false false u v = refl

any-either : {A : Type 0} (p q : A → Bool) (l : List A) → (any p l || any q l) ≡ any (λ (a : A). p a || q a) l
unfolding any
any-either p q [] = refl
any-either p q (a ∷ l) = or-four (p a) (q a) (any p l) (any q l) ∙ ap (λ (b : Bool). (p a || q a) || b) (any-either p q l)

-- ---- a pair of two lists, from whichever list first
pub any_swap : {A B : Type 0} (r : A → B → Bool) (l : List A) (m : List B) →
    any (λ (a : A). any (r a) m) l ≡ any (λ (b : B). any (λ (a : A). r a b) l) m
unfolding any
any_swap r [] m = any-never m
any_swap {A} {B} r (a ∷ l) m =
    ap (λ (x : Bool). any (r a) m || x) (any_swap r l m) ∙ any-either (r a) (λ (b : B). any (λ (c : A). r c b) l) m
