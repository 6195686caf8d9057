-- What stands in a list, at some place, and what stands in lists made of others.
use native.Mathlib.Omega.{arith}
use Prim.Native.Nat.{suc}
use mathlib.Core.Path.{◌≡◌, refl, ap, sym, ◌∙◌, subst}
use mathlib.Core.Bool.{Bool, true}
use mathlib.Core.Logic.{◌⊎◌, inl, inr, ⊎_elim}
use mathlib.Core.List.Memᴰ
use mathlib.Core.List.{List, [], ◌∷◌, ◌++◌, map, flat_map}
use Rattle.lists.specs.Lists.{keep}
use Rattle.lists.proofs.Members.{kept-member, member-kept}
use Rattle.rules_chains.specs.Chain.{In}
use Rattle.rules_chains.proofs.Members.{in-member, member-in}

module _ {A : Type 0} (a : A) where
  pub in_head : (b : A) (l : List A) → a ≡ b → In a (b ∷ l)
  in_head b l e = record { place = 0; inside = omega arith; is = sym e }

  pub in_tail : (b : A) (l : List A) → In a l → In a (b ∷ l)
  in_tail b l m = let h = m.inside in record { place = suc m.place; inside = omega arith; is = m.is }

  pub in-cases : (b : A) (l : List A) → In a (b ∷ l) → (a ≡ b) ⊎ In a l
  in-cases b l m = ⊎_elim inl (λ k. inr (member-in a l k)) (Memᴰ.cases_cons (in-member a (b ∷ l) m))

  pub not-in-none : In a [] → ⊥
  not-in-none m = Memᴰ.not-nil (in-member a [] m)

  -- what is kept
  pub in-keep : (p : A → Bool) (l : List A) → In a (keep p l) → In a l × (p a ≡ true)
  in-keep p l m = let r = kept-member p a l (in-member a (keep p l) m) in (member-in a l r.0, r.1)

  pub keep-in : (p : A → Bool) (l : List A) → In a l → p a ≡ true → In a (keep p l)
  keep-in p l m e = member-in a (keep p l) (member-kept p a l (in-member a l m) e)

-- ---- of what it was made
pub record From {A B : Type 0} (R : A → B → Type 0) (l : List A) (b : B) : Type 0 where
  pub item : A
  pub stands : In item l
  pub is : R item b

module _ {A B : Type 0} {R : A → B → Type 0} (b : B) where
  pub from-here : (a : A) (l : List A) → R a b → From R (a ∷ l) b
  from-here a l r = record { item = a; stands = in_head a a l refl; is = r }

  pub from-there : (a : A) (l : List A) → From R l b → From R (a ∷ l) b
  from-there a l m = record { item = m.item; stands = in_tail m.item a l m.stands; is = m.is }

module _ {A B : Type 0} (f : A → B) (b : B) where
  pub in_map : (l : List A) → In b (map f l) → From (λ (a : A) (x : B). x ≡ f a) l b
  in_map [] m = absurd (not-in-none b m)
  in_map (a ∷ l) m = ⊎_elim (λ e. from-here b a l e) (λ k. from-there b a l (in_map l k)) (in-cases b (f a) (map f l) m)

  pub map-in : (l : List A) (a : A) → In a l → b ≡ f a → In b (map f l)
  map-in [] a m e = absurd (not-in-none a m)
  map-in (c ∷ l) a m e =
      ⊎_elim (λ d. in_head b (f c) (map f l) (e ∙ ap f d)) (λ k. in_tail b (f c) (map f l) (map-in l a k e)) (in-cases a c l m)

module _ {A B : Type 0} (f : A → List B) (b : B) where
  pub in-flat_map : (l : List A) → In b (flat_map f l) → From (λ (a : A) (x : B). In x (f a)) l b
  unfolding flat_map
  in-flat_map [] m = absurd (not-in-none b m)
  in-flat_map (a ∷ l) m =
      ⊎_elim (λ k. from-here b a l (member-in b (f a) k)) (λ k. from-there b a l (in-flat_map l (member-in b (flat_map f l) k)))
      (Memᴰ.append_cases (f a) (in-member b (f a ++ flat_map f l) m))

  pub flat_map-in : (l : List A) (a : A) → In a l → In b (f a) → In b (flat_map f l)
  unfolding flat_map
  flat_map-in [] a m k = absurd (not-in-none a m)
  flat_map-in (c ∷ l) a m k =
      member-in b (f c ++ flat_map f l)
      (⊎_elim (λ e. Memᴰ.append_left (flat_map f l) (in-member b (f c) (subst (λ (x : A). In b (f x)) e k)))
      (λ j. Memᴰ.append_right (f c) (in-member b (flat_map f l) (flat_map-in l a j k))) (in-cases a c l m))
