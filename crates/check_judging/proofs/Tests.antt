-- Tests joined from the left, as code has them, are one of a list.
use mathlib.Core.Path.{◌≡◌, refl, ap, sym, ◌∙◌}
use mathlib.Core.List.{List, [], ◌∷◌}
use mathlib.Core.Bool.{Bool, true, false, ◌||◌, or-true, or-false}
use Rattle.rules_refusals.specs.Refusals.{one}
use Rattle.rules_refusals.proofs.OneOf.{or-joined}

unfoldable pub joined_onto : Bool → List Bool → Bool
joined_onto a [] = a
joined_onto a (b ∷ l) = joined_onto (a || b) l

-- a | b | c
unfoldable pub joined : List Bool → Bool
joined [] = false
joined (a ∷ l) = joined_onto a l

joined_to : (a : Bool) (l : List Bool) → joined_onto a l ≡ (a || one l)
unfolding joined_onto one
joined_to a [] = sym (or-false a)
joined_to a (b ∷ l) = joined_to (a || b) l ∙ sym (or-joined a b (one l))

pub joined_is : (l : List Bool) → joined l ≡ one l
unfolding joined one
joined_is [] = refl
joined_is (a ∷ l) = joined_to a l

-- ---- three tests in front of a list, tried after it
module _ (p q t : Bool) (l : List Bool) where
  split : one (p ∷ q ∷ t ∷ l) ≡ (one l || (p || (q || t)))
  unfolding one
  split = by p q t (one l)
    where
      by : (p q t x : Bool) → (p || (q || (t || x))) ≡ (x || (p || (q || t)))
      by true q t x = sym (or-true x)
      by false true t x = sym (or-true x)
      by false false true x = sym (or-true x)
      by false false false x = sym (or-false x)

  module _ (b : Bool) (h : b ≡ one l) where
    pub by-list : b ≡ true → true ≡ one (p ∷ q ∷ t ∷ l)
    by-list e = sym (split ∙ ap (λ (x : Bool). x || (p || (q || t))) (sym h ∙ e))

    module _ (n : b ≡ false) where
      none : one l ≡ false
      none = sym h ∙ n

      pub by_first : p ≡ true → true ≡ one (p ∷ q ∷ t ∷ l)
      by_first e = sym (split ∙ (λ i. none i || (e i || (q || t))))

      module _ (e : p ≡ false) where
        pub by-second : q ≡ true → true ≡ one (p ∷ q ∷ t ∷ l)
        by-second f = sym (split ∙ (λ i. none i || (e i || (f i || t))))

        pub by-third : q ≡ false → t ≡ one (p ∷ q ∷ t ∷ l)
        by-third f = sym (split ∙ (λ i. none i || (e i || (f i || t))))
