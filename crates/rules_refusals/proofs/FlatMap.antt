-- What holds of all that the elements of a list hold, by the elements: for code that walks a frame payload by payload and bag by bag.
-- And one of a number's clauses applies in whatever order they are tried.
use native.Mathlib.Omega.{arith}
use Prim.Native.Nat.{ℕ, ◌+◌}
use mathlib.Core.Path.{◌≡◌, refl, ap, sym, ◌∙◌}
use borrow.Author.Tests.{lt-ltb}
use lib.Dec.{ltb}
use mathlib.Core.List.{List, [], ◌∷◌, ◌++◌, flat_map}
use mathlib.Core.Bool.{Bool, true, false, cond, ◌||◌}
use lib.ListN.{length, length-append}
use Rattle.lists.specs.Lists.{any, count}
use Rattle.rules_refusals.specs.Fitness.{sum}
use Rattle.rules_refusals.specs.Refusals.{one}
use Rattle.rules_refusals.specs.Reordered.{AnyOrder, none, next, swapped, then}
use Rattle.rules_refusals.proofs.AnyOrder.{or_swap}
use Rattle.rules_refusals.proofs.OneOf.{or-joined}

added : (b : Bool) (x y : ℕ) → cond b (x + y + 1) (x + y) ≡ cond b (x + 1) x + y
added true x y = omega arith
added false x y = refl

module _ {A : Type 0} (p : A → Bool) where
  pub any_append : (x y : List A) → any p (x ++ y) ≡ (any p x || any p y)
  unfolding any
  any_append [] y = refl
  any_append (a ∷ x) y = ap (λ (b : Bool). p a || b) (any_append x y) ∙ or-joined (p a) (any p x) (any p y)

  pub count-append : (x y : List A) → count p (x ++ y) ≡ count p x + count p y
  unfolding count
  count-append [] y = omega arith
  count-append (a ∷ x) y =
      ap (λ (n : ℕ). cond (p a) (n + 1) n) (count-append x y) ∙ added (p a) (count p x) (count p y)

module _ {A B : Type 0} (f : A → List B) where
  pub any-flat_map : (p : B → Bool) (l : List A) → any p (flat_map f l) ≡ any (λ (a : A). any p (f a)) l
  unfolding any flat_map
  any-flat_map p [] = refl
  any-flat_map p (a ∷ l) = any_append p (f a) (flat_map f l) ∙ ap (λ (b : Bool). any p (f a) || b) (any-flat_map p l)

  pub count-flat_map : (p : B → Bool) (l : List A) → count p (flat_map f l) ≡ sum (λ (a : A). count p (f a)) l
  unfolding count flat_map sum
  count-flat_map p [] = refl
  count-flat_map p (a ∷ l) = count-append p (f a) (flat_map f l) ∙ ap (λ (n : ℕ). count p (f a) + n) (count-flat_map p l)

  pub length-flat_map : (l : List A) → length (flat_map f l) ≡ sum (λ (a : A). length (f a)) l
  unfolding flat_map sum
  length-flat_map [] = refl
  length-flat_map (a ∷ l) = length-append (f a) (flat_map f l) ∙ ap (λ (n : ℕ). length (f a) + n) (length-flat_map l)

one_more : (t b : Bool) (n : ℕ) → b ≡ ltb 0 n → (t || b) ≡ ltb 0 (cond t (n + 1) n)
one_more true b n e = sym (lt-ltb 0 (n + 1) (omega arith))
one_more false b n e = e

-- one of a list passes where at least one is counted, and either test is passed where one of them is
module _ {A : Type 0} (p : A → Bool) where
  pub any-count : (l : List A) → any p l ≡ ltb 0 (count p l)
  unfolding any count
  any-count [] = refl
  any-count (a ∷ l) = one_more (p a) (any p l) (count p l) (any-count l)

  pub any-either : (q : A → Bool) (l : List A) → any (λ (a : A). p a || q a) l ≡ (any p l || any q l)
  unfolding any
  any-either q [] = refl
  any-either q (a ∷ l) =
      ap (λ (b : Bool). (p a || q a) || b) (any-either q l) ∙ sym (or-joined (p a) (q a) (any p l || any q l))
      ∙ ap (λ (b : Bool). p a || b) (or_swap (q a) (any p l) (any q l)) ∙ or-joined (p a) (any p l) (q a || any q l)

pub one-order : {l m : List Bool} → AnyOrder ◌≡◌ l m → one l ≡ one m
unfolding one
one-order none = refl
one-order (next e r) = λ i. e i || one-order r i
one-order (swapped {a} {b} {l}) = or_swap a b (one l)
one-order (then r s) = one-order r ∙ one-order s
