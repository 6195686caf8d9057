-- What does not depend on a list's order: whether there is one that passes, how many pass, how many there are; and what the elements hold.
use Prim.Native.Nat.{ℕ, suc, ◌+◌}
use mathlib.Core.Path.{◌≡◌, refl, ap, ◌∙◌}
use mathlib.Core.List.{List, [], ◌∷◌, ◌++◌, flat_map}
use mathlib.Core.Bool.{Bool, true, false, cond, ◌||◌}
use lib.ListN.{length}
use Rattle.lists.specs.Lists.{any, count}
use Rattle.rules_refusals.specs.Reordered.{AnyOrder, none, next, swapped, then, SameOrder, no_item, item}

pub or_swap : (x y z : Bool) → (x || (y || z)) ≡ (y || (x || z))
or_swap true true z = refl
or_swap true false z = refl
or_swap false true z = refl
or_swap false false z = refl

count-swap : (x y : Bool) (n : ℕ) → cond x (cond y (n + 1) n + 1) (cond y (n + 1) n) ≡ cond y (cond x (n + 1) n + 1) (cond x (n + 1) n)
count-swap true true n = refl
count-swap true false n = refl
count-swap false true n = refl
count-swap false false n = refl

module _ {A : Type 0} {R : A → A → Type 0} where
  pub any_order : (p : A → Bool) → ((a b : A) → R a b → p a ≡ p b) → {l m : List A} → AnyOrder R l m → any p l ≡ any p m
  unfolding any
  any_order p h none = refl
  any_order p h (next {a} {b} r s) = λ i. h a b r i || any_order p h s i
  any_order p h (swapped {a} {b} {l}) = or_swap (p a) (p b) (any p l)
  any_order p h (then r s) = any_order p h r ∙ any_order p h s

  pub count-order : (p : A → Bool) → ((a b : A) → R a b → p a ≡ p b) → {l m : List A} → AnyOrder R l m → count p l ≡ count p m
  unfolding count
  count-order p h none = refl
  count-order p h (next {a} {b} r s) = λ i. cond (h a b r i) (count-order p h s i + 1) (count-order p h s i)
  count-order p h (swapped {a} {b} {l}) = count-swap (p a) (p b) (count p l)
  count-order p h (then r s) = count-order p h r ∙ count-order p h s

  pub length-order : {l m : List A} → AnyOrder R l m → length l ≡ length m
  length-order none = refl
  length-order (next r s) = ap suc (length-order s)
  length-order swapped = refl
  length-order (then r s) = length-order r ∙ length-order s

  pub in_order : {l m : List A} → SameOrder R l m → AnyOrder R l m
  in_order no_item = none
  in_order (item r s) = next r (in_order s)

  module _ (same : (a : A) → R a a) where
    pub as_is : (l : List A) → AnyOrder R l l
    as_is [] = none
    as_is (a ∷ l) = next (same a) (as_is l)

    later : (a : A) (x y : List A) → AnyOrder R (a ∷ (x ++ y)) (x ++ (a ∷ y))
    later a [] y = as_is (a ∷ y)
    later a (b ∷ x) y = then swapped (next (same b) (later a x y))

    blocks : (x y z : List A) → AnyOrder R (x ++ (y ++ z)) (y ++ (x ++ z))
    blocks [] y z = as_is (y ++ z)
    blocks (a ∷ x) y z = then (next (same a) (blocks x y z)) (later a y (x ++ z))

    joined : {l m : List A} (x : List A) → AnyOrder R l m → AnyOrder R (x ++ l) (x ++ m)
    joined [] r = r
    joined (a ∷ x) r = next (same a) (joined x r)

    pub both-joined : {l m x y : List A} → AnyOrder R x y → AnyOrder R l m → AnyOrder R (x ++ l) (y ++ m)
    both-joined none s = s
    both-joined (next r t) s = next r (both-joined t s)
    both-joined (swapped {a} {b} {l = x}) s = then swapped (next (same b) (next (same a) (joined x s)))
    both-joined {l} {m} {x} (then r t) s = then (both-joined {l = l} {m = l} r (as_is l)) (both-joined {l = l} {m = m} t s)

-- the same for a list of the same elements
module _ {A : Type 0} (p : A → Bool) {l m : List A} (r : AnyOrder ◌≡◌ l m) where
  pub any-equal : any p l ≡ any p m
  any-equal = any_order p (λ a b e. ap p e) r

  pub count-equal : count p l ≡ count p m
  count-equal = count-order p (λ a b e. ap p e) r

-- what the elements hold
pub flat_map-order : {A B : Type 0} {R : A → A → Type 0} {Q : B → B → Type 0} (same : (b : B) → Q b b) (f : A → List B) →
    ((a b : A) → R a b → AnyOrder Q (f a) (f b)) → {l m : List A} → AnyOrder R l m → AnyOrder Q (flat_map f l) (flat_map f m)
unfolding flat_map
flat_map-order same f h none = none
flat_map-order same f h (next {a} {b} r s) = both-joined same (h a b r) (flat_map-order same f h s)
flat_map-order same f h (swapped {a} {b} {l}) = blocks same (f a) (f b) (flat_map f l)
flat_map-order same f h (then r s) = then (flat_map-order same f h r) (flat_map-order same f h s)
