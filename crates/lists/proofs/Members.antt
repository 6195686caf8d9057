-- The members of a list that was filtered, or into which an element was put.
use mathlib.Core.Path.{◌≡◌, ap, sym, ◌∙◌}
use mathlib.Core.Bool.{Bool, true, false≢true}
use mathlib.Core.Logic.{◌⊎◌, inl, inr, ⊎_elim}
use mathlib.Core.List.Memᴰ
use mathlib.Core.List.{List, [], ◌∷◌, Memᴰ}
use Rattle.lists.specs.Lists.{keep, insert}
use Rattle.lists.proofs.Cases.{bool_cases}

module _ {A : Type 0} (p : A → Bool) (s : A) where
  pub kept-member : (l : List A) → Memᴰ s (keep p l) → Memᴰ s l × (p s ≡ true)
  unfolding keep
  kept-member [] m = absurd (Memᴰ.not-nil m)
  kept-member (a ∷ l) m =
      bool_cases (p a)
      (λ g.
      ⊎_elim (λ e. (Memᴰ.head e, ap p e ∙ g)) (λ k. let r = kept-member l k in (Memᴰ.tail r.0, r.1))
      (Memᴰ.cases_cons (rw g at m)))
      (λ g. let r = kept-member l (rw g at m) in (Memᴰ.tail r.0, r.1))

  pub member-kept : (l : List A) → Memᴰ s l → p s ≡ true → Memᴰ s (keep p l)
  unfolding keep
  member-kept [] m e = absurd (Memᴰ.not-nil m)
  member-kept (a ∷ l) m e =
      bool_cases (p a)
      (λ g.
      rw g (⊎_elim (λ q. Memᴰ.head q) (λ k. Memᴰ.tail (member-kept l k e)) (Memᴰ.cases_cons m)))
      (λ g.
      rw g
      (⊎_elim (λ q. absurd (false≢true (sym g ∙ ap p (sym q) ∙ e))) (λ k. member-kept l k e) (Memᴰ.cases_cons m)))

module _ {A : Type 0} (before : A → A → Bool) (a s : A) where
  pub inserted-member : (l : List A) → Memᴰ s (insert before a l) → (s ≡ a) ⊎ Memᴰ s l
  unfolding insert
  inserted-member [] m = Memᴰ.cases_cons m
  inserted-member (b ∷ l) m =
      bool_cases (before a b) (λ g. Memᴰ.cases_cons (rw g at m))
      (λ g.
      ⊎_elim (λ e. inr (Memᴰ.head e)) (λ k. ⊎_elim (λ e. inl e) (λ x. inr (Memᴰ.tail x)) (inserted-member l k))
      (Memᴰ.cases_cons (rw g at m)))

  pub member-inserted : (l : List A) → (s ≡ a) ⊎ Memᴰ s l → Memᴰ s (insert before a l)
  unfolding insert
  member-inserted [] m = ⊎_elim (λ e. Memᴰ.head e) (λ x. absurd (Memᴰ.not-nil x)) m
  member-inserted (b ∷ l) m =
      bool_cases (before a b) (λ g. rw g (⊎_elim (λ e. Memᴰ.head e) (λ x. Memᴰ.tail x) m))
      (λ g.
      rw g
      (⊎_elim (λ e. Memᴰ.tail (member-inserted l (inl e)))
      (λ x. ⊎_elim (λ e. Memᴰ.head e) (λ k. Memᴰ.tail (member-inserted l (inr k))) (Memᴰ.cases_cons x)) m))
