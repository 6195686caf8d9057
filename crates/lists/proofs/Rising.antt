-- Lists that rise: what keeps them rising, and that their members determine them.
use native.Mathlib.Omega.{arith}
use Prim.Native.Nat.{◌+◌, ◌≤◌}
use mathlib.Core.Path.{◌≡◌, refl, sym, ◌∙◌, subst}
use mathlib.Core.Bool.{Bool, true, false, ◌&&◌, ◌||◌, false≢true}
use mathlib.Core.Logic.{⊎_elim}
use mathlib.Core.List.Memᴰ
use mathlib.Core.List.{List, [], ◌∷◌, map, Memᴰ}
use lib.ListN.{length}
use Rattle.lists.specs.Lists.{all, count, keep, heads, rising, insert}
use Rattle.lists.proofs.Cases.{bool_cases, and_parts, and-whole}

-- ---- what some test keeps
module _ {A : Type 0} (p q : A → Bool) where
  pub all_keep : (l : List A) → all q l ≡ true → all q (keep p l) ≡ true
  unfolding all keep
  all_keep [] e = refl
  all_keep (a ∷ l) e =
      let f = and_parts (q a) (all q l) e in
      bool_cases (p a) (λ g. rw (g, f.0) (all_keep l f.1)) (λ g. rw g (all_keep l f.1))

  pub count-keep : (l : List A) → count q (keep p l) ≤ count q l
  unfolding count keep
  count-keep [] = omega arith
  count-keep (a ∷ l) =
      let h = count-keep l in
      bool_cases (p a)
      (λ g. bool_cases (q a) (λ f. rw (g, f) (omega arith)) (λ f. rw (g, f) h))
      (λ g. bool_cases (q a) (λ f. rw (g, f) (omega arith)) (λ f. rw (g, f) h))

pub length-keep : {A : Type 0} (p : A → Bool) (l : List A) → length (keep p l) ≤ length l
unfolding keep
length-keep p [] = omega arith
length-keep p (a ∷ l) = let h = length-keep p l in bool_cases (p a) (λ g. rw g (omega arith)) (λ g. rw g (omega arith))

-- ---- what is put in its place
module _ {A : Type 0} (before : A → A → Bool) where
  pub length-insert : (a : A) (l : List A) → length (insert before a l) ≡ length l + 1
  unfolding insert
  length-insert a [] = refl
  length-insert a (b ∷ l) = bool_cases (before a b) (λ e. rw e (omega arith)) (λ e. let h = length-insert a l in rw e (omega arith))

  pub all_insert : (q : A → Bool) (a : A) (l : List A) → q a ≡ true → all q l ≡ true → all q (insert before a l) ≡ true
  unfolding all insert
  all_insert q a [] e f = rw e
  all_insert q a (b ∷ l) e f =
      let g = and_parts (q b) (all q l) f in
      bool_cases (before a b) (λ h. rw (h, e, g.0) g.1) (λ h. rw (h, g.0) (all_insert q a l e g.1))

  pub count-insert : (q : A → Bool) (a : A) (l : List A) → count q (insert before a l) ≡ count q (a ∷ l)
  unfolding count insert
  count-insert q a [] = refl
  count-insert q a (b ∷ l) =
      let h = count-insert q a l in
      bool_cases (before a b) (λ e. rw e)
      (λ e.
      bool_cases (q b)
      (λ f. bool_cases (q a) (λ g. rw (e, f, h, g)) (λ g. rw (e, f, h, g)))
      (λ f. bool_cases (q a) (λ g. rw (e, f, h, g)) (λ g. rw (e, f, h, g))))

-- ---- a relation that is transitive
module _ {A : Type 0} (before : A → A → Bool)
    (trans : (a b c : A) → before a b ≡ true → before b c ≡ true → before a c ≡ true) where
  heads-trans : (a b : A) (l : List A) → before a b ≡ true → heads before b l ≡ true → heads before a l ≡ true
  unfolding heads
  heads-trans a b [] e f = refl
  heads-trans a b (c ∷ l) e f = trans a b c e f

  heads-keep : (p : A → Bool) (a : A) (l : List A) → heads before a l ≡ true → rising before l ≡ true → heads before a (keep p l) ≡ true
  unfolding heads rising keep
  heads-keep p a [] e r = refl
  heads-keep p a (b ∷ l) e r =
      let f = and_parts (heads before b l) (rising before l) r in
      bool_cases (p b) (λ g. rw g e) (λ g. rw g (heads-keep p a l (heads-trans a b l e f.0) f.1))

  pub rising-keep : (p : A → Bool) (l : List A) → rising before l ≡ true → rising before (keep p l) ≡ true
  unfolding rising keep
  rising-keep p [] r = refl
  rising-keep p (b ∷ l) r =
      let f = and_parts (heads before b l) (rising before l) r in
      bool_cases (p b)
      (λ g. rw g (and-whole (heads before b (keep p l)) (rising before (keep p l)) (heads-keep p b l f.0 f.1)
      (rising-keep p l f.1)))
      (λ g. rw g (rising-keep p l f.1))

  heads-insert : (a b : A) (l : List A) → before b a ≡ true → heads before b l ≡ true → heads before b (insert before a l) ≡ true
  unfolding heads insert
  heads-insert a b [] e f = e
  heads-insert a b (c ∷ l) e f = bool_cases (before a c) (λ g. rw g e) (λ g. rw g f)

  -- an element that stands before or after each of the list
  pub rising-insert : (a : A) (l : List A) → all (λ (b : A). before a b || before b a) l ≡ true → rising before l ≡ true →
      rising before (insert before a l) ≡ true
  unfolding rising heads insert all
  rising-insert a [] e r = refl
  rising-insert a (b ∷ l) e r =
      let f = and_parts (heads before b l) (rising before l) r in
      let d = and_parts (before a b || before b a) (all (λ (c : A). before a c || before c a) l) e in
      bool_cases (before a b) (λ g. rw g (and-whole (before a b) (heads before b l && rising before l) g r))
      (λ g.
      let h : before b a ≡ true = sym (rw g) ∙ d.0 in
      rw g
      (and-whole (heads before b (insert before a l)) (rising before (insert before a l)) (heads-insert a b l h f.0)
      (rising-insert a l d.1 f.1)))

-- ---- what is changed one by one
module _ {A : Type 0} (f : A → A) where
  pub all_map : (q : A → Bool) → ((a : A) → q (f a) ≡ q a) → (l : List A) → all q (map f l) ≡ all q l
  unfolding all
  all_map q e [] = refl
  all_map q e (a ∷ l) = rw (e a, all_map q e l)

  pub count_map : (q : A → Bool) → ((a : A) → q (f a) ≡ true → q a ≡ true) → (l : List A) → count q (map f l) ≤ count q l
  unfolding count
  count_map q e [] = omega arith
  count_map q e (a ∷ l) =
      let h = count_map q e l in
      bool_cases (q (f a)) (λ g. rw (g, e a g) (omega arith))
      (λ g. bool_cases (q a) (λ k. rw (g, k) (omega arith)) (λ k. rw (g, k) h))

  module _ (before : A → A → Bool) (e : (a b : A) → before (f a) (f b) ≡ before a b) where
    heads-map : (a : A) (l : List A) → heads before (f a) (map f l) ≡ heads before a l
    unfolding heads
    heads-map a [] = refl
    heads-map a (b ∷ l) = e a b

    pub rising-map : (l : List A) → rising before (map f l) ≡ rising before l
    unfolding rising
    rising-map [] = refl
    rising-map (a ∷ l) = rw (heads-map a l, rising-map l)

-- ---- a strict order: a list that rises is determined by its members
module _ {A : Type 0} (before : A → A → Bool)
    (trans : (a b c : A) → before a b ≡ true → before b c ≡ true → before a c ≡ true)
    (irrefl : (a : A) → before a a ≡ false) where
  pub rising-rest : (a : A) (l : List A) → rising before (a ∷ l) ≡ true → rising before l ≡ true
  unfolding rising
  rising-rest a l r = (and_parts (heads before a l) (rising before l) r).1

  rising-two : (a b : A) (l : List A) → rising before (a ∷ b ∷ l) ≡ true → before a b ≡ true
  unfolding rising heads
  rising-two a b l r = (and_parts (before a b) (rising before (b ∷ l)) r).0

  -- the first stands before every other member
  pub first-before : (a b : A) (l : List A) → rising before (a ∷ l) ≡ true → Memᴰ b l → before a b ≡ true
  first-before a b [] r m = absurd (Memᴰ.not-nil m)
  first-before a b (c ∷ l) r m =
      let h = rising-two a c l r in
      ⊎_elim (λ e. subst (λ (x : A). before a x ≡ true) (sym e) h)
      (λ k. trans a c b h (first-before c b l (rising-rest a (c ∷ l) r) k)) (Memᴰ.cases_cons m)

  first-other : (a : A) (l : List A) → rising before (a ∷ l) ≡ true → Memᴰ a l → ⊥
  first-other a l r m = absurd (false≢true (sym (irrefl a) ∙ first-before a a l r m))

  same_first : (a b : A) (l m : List A) → rising before (a ∷ l) ≡ true → rising before (b ∷ m) ≡ true → Memᴰ a (b ∷ m) →
      Memᴰ b (a ∷ l) → a ≡ b
  same_first a b l m r q f g =
      ⊎_elim (λ e. e)
      (λ x.
      ⊎_elim sym
      (λ y. absurd (false≢true (sym (irrefl a) ∙ trans a b a (first-before a b l r y) (first-before b a m q x))))
      (Memᴰ.cases_cons g))
      (Memᴰ.cases_cons f)

  -- what both lists have besides their common first
  rest_of : (a b s : A) (l m : List A) → rising before (a ∷ l) ≡ true → a ≡ b → Memᴰ s l → Memᴰ s (b ∷ m) → Memᴰ s m
  rest_of a b s l m r e x y =
      ⊎_elim (λ f. absurd (first-other a l r (subst (λ (z : A). Memᴰ z l) (f ∙ sym e) x))) (λ k. k) (Memᴰ.cases_cons y)

  pub rising-unique : (l m : List A) → rising before l ≡ true → rising before m ≡ true → ((s : A) → Memᴰ s l → Memᴰ s m) →
      ((s : A) → Memᴰ s m → Memᴰ s l) → l ≡ m
  rising-unique [] [] r q f g = refl
  rising-unique [] (b ∷ m) r q f g = absurd (Memᴰ.not-nil (g b (Memᴰ.head refl)))
  rising-unique (a ∷ l) [] r q f g = absurd (Memᴰ.not-nil (f a (Memᴰ.head refl)))
  rising-unique (a ∷ l) (b ∷ m) r q f g =
      let e = same_first a b l m r q (f a (Memᴰ.head refl)) (g b (Memᴰ.head refl)) in
      let t : l ≡ m =
      rising-unique l m (rising-rest a l r) (rising-rest b m q)
      (λ s x. rest_of a b s l m r e x (f s (Memᴰ.tail x)))
      (λ s x. rest_of b a s m l q (sym e) x (g s (Memᴰ.tail x))) in
      cc
