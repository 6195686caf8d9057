-- The first condition that holds, in judging order: it is one, and it is given exactly when a condition holds and none at an earlier place
-- does; 0 exactly when none holds. In a list whose numbers rise, earlier is lower.
use native.Mathlib.Omega.{arith}
use Prim.Native.Nat.{ℕ, suc, ◌≤◌, ◌<◌}
use mathlib.Core.Path.{◌≡◌, refl, ap, sym, ◌∙◌, subst}
use mathlib.Core.Bool.{Bool, true, ◌&&◌, false≢true}
use mathlib.Core.Logic.{◌⊎◌, inl, inr, ⊎_elim}
use mathlib.Core.List.{List, [], ◌∷◌, ◌++◌, map}
use lib.Dec.{ltb}
use borrow.Author.Tests.{ltb-true}
use Rattle.lists.proofs.Cases.{bool_cases, and_parts}
use Rattle.rules_refusals.specs.Refusals.{Number, applies, judged}
use Rattle.rules_outcome.specs.Answer.{RefusalCase, First, by_clauses}
use Rattle.rules_outcome.specs.Judging.{SomeHolds, JudgedFirst, above}

next-above : (k : ℕ) (c : RefusalCase) (l : List RefusalCase) → above k (c ∷ l) ≡ true → (k < c.number) × (above c.number l ≡ true)
next-above k c l a =
    let p = and_parts (ltb k c.number) (above c.number l) a in (ltb-true k c.number p.0, p.1)

-- there is one first
pub first_one : (l : List RefusalCase) (n m : ℕ) → First l n → First l m → n ≡ m
first_one [] n m p q = p ∙ sym q
first_one (c ∷ l) n m (inl p) (inl q) = p.1 ∙ sym q.1
first_one (c ∷ l) n m (inl p) (inr q) = absurd (q.0 p.0)
first_one (c ∷ l) n m (inr p) (inl q) = absurd (p.0 q.0)
first_one (c ∷ l) n m (inr p) (inr q) = first_one l n m p.1 q.1

-- what holds has a number above
pub above_holds : (k : ℕ) (l : List RefusalCase) → above k l ≡ true → (n : ℕ) → SomeHolds l n → k < n
above_holds k (c ∷ l) a n (inl h) = let p = (next-above k c l a).0 in let e = h.1 in omega arith
above_holds k (c ∷ l) a n (inr h) =
    let p = next-above k c l a in let g = p.0 in let q = above_holds c.number l p.1 n h in omega arith
above_holds k [] a n h = elim h [ ]

-- the numbers of the list are all below k
abbrev pub below : ℕ → List RefusalCase → Bool
below k [] = true
below k (c ∷ l) = ltb c.number k && below k l

-- what holds has a number below
pub below_holds : (k : ℕ) (l : List RefusalCase) → below k l ≡ true → (n : ℕ) → SomeHolds l n → n < k
below_holds k (c ∷ l) b n (inl h) =
    let p = ltb-true c.number k (and_parts (ltb c.number k) (below k l) b).0 in let e = h.1 in omega arith
below_holds k (c ∷ l) b n (inr h) = below_holds k l (and_parts (ltb c.number k) (below k l) b).1 n h
below_holds k [] b n h = elim h [ ]

-- what holds and is not below stands behind them
pub past-holds : (k : ℕ) (l m : List RefusalCase) → below k l ≡ true → (n : ℕ) → k ≤ n → SomeHolds (l ++ m) n → SomeHolds m n
past-holds k [] m b n g h = h
past-holds k (c ∷ l) m b n g (inl h) =
    let p = ltb-true c.number k (and_parts (ltb c.number k) (below k l) b).0 in let e = h.1 in absurd (omega arith)
past-holds k (c ∷ l) m b n g (inr h) = past-holds k l m (and_parts (ltb c.number k) (below k l) b).1 n g h

-- the first holds
pub first_holds : (l : List RefusalCase) (n : ℕ) → First l (suc n) → SomeHolds l (suc n)
first_holds [] n e = absurd (omega arith)
first_holds (c ∷ l) n (inl p) = inl p
first_holds (c ∷ l) n (inr p) = inr (first_holds l n p.1)

-- none with a lower number does
pub first-lowest : (k : ℕ) (l : List RefusalCase) → above k l ≡ true → (n : ℕ) → First l n → (m : ℕ) → m < n → SomeHolds l m → ⊥
first-lowest k (c ∷ l) a n (inl p) m g (inl h) = let e = p.1 in let d = h.1 in absurd (omega arith)
first-lowest k (c ∷ l) a n (inl p) m g (inr h) =
    let e = p.1 in let d = above_holds c.number l (next-above k c l a).1 m h in absurd (omega arith)
first-lowest k (c ∷ l) a n (inr p) m g (inl h) = p.0 h.0
first-lowest k (c ∷ l) a n (inr p) m g (inr h) = first-lowest c.number l (next-above k c l a).1 n p.1 m g h
first-lowest k [] a n _ m g h = elim h [ ]

-- the numbers of the list are all above k
abbrev pub exceed : ℕ → List RefusalCase → Bool
exceed k [] = true
exceed k (c ∷ l) = ltb k c.number && exceed k l

-- what holds has a number above
pub exceed-holds : (k : ℕ) (l : List RefusalCase) → exceed k l ≡ true → (n : ℕ) → SomeHolds l n → k < n
exceed-holds k (c ∷ l) a n (inl h) =
    let p = ltb-true k c.number (and_parts (ltb k c.number) (exceed k l) a).0 in let e = h.1 in omega arith
exceed-holds k (c ∷ l) a n (inr h) = exceed-holds k l (and_parts (ltb k c.number) (exceed k l) a).1 n h
exceed-holds k [] a n h = elim h [ ]

-- 0 says that none holds
pub first-none : (l : List RefusalCase) → exceed 0 l ≡ true → First l 0 → (m : ℕ) → SomeHolds l m → ⊥
first-none (c ∷ l) a (inl p) m h =
    let e = p.1 in let g = ltb-true 0 c.number (and_parts (ltb 0 c.number) (exceed 0 l) a).0 in absurd (omega arith)
first-none (c ∷ l) a (inr p) m (inl h) = p.0 h.0
first-none (c ∷ l) a (inr p) m (inr h) = first-none l (and_parts (ltb 0 c.number) (exceed 0 l) a).1 p.1 m h
first-none [] a _ m h = elim h [ ]

-- and conversely
pub first-is : (k : ℕ) (l : List RefusalCase) → above k l ≡ true → (n : ℕ) → SomeHolds l n → ((m : ℕ) → m < n → SomeHolds l m → ⊥) →
    First l n
first-is k (c ∷ l) a n (inl h) none = inl h
first-is k (c ∷ l) a n (inr h) none =
    let g = above_holds c.number l (next-above k c l a).1 n h in
    inr (λ x. none c.number g (inl (x, refl)), first-is c.number l (next-above k c l a).1 n h (λ m e x. none m e (inr x)))
first-is k [] a n h none = elim h [ ]

pub none_first : (l : List RefusalCase) → ((m : ℕ) → SomeHolds l m → ⊥) → First l 0
none_first [] none = refl
none_first (c ∷ l) none = inr (λ x. none c.number (inl (x, refl)), none_first l (λ m x. none m (inr x)))

-- ---- of two lists in a row: the first of the first, or none of it holds and it is the first of the second
pub first-split : (l m : List RefusalCase) (n : ℕ) → First (l ++ m) (suc n) →
    First l (suc n) ⊎ (((k : ℕ) → SomeHolds l k → ⊥) × First m (suc n))
first-split [] m n p = inr (λ k h. h, p)
first-split (c ∷ l) m n (inl p) = inl (inl p)
first-split (c ∷ l) m n (inr p) =
    ⊎_elim (λ q. inl (inr (p.0, q))) (λ q. inr (λ k. ⊎_elim (λ h. p.0 h.0) (q.0 k), q.1)) (first-split l m n p.1)

pub first-left : (l m : List RefusalCase) (n : ℕ) → First l (suc n) → First (l ++ m) (suc n)
first-left [] m n e = absurd (omega arith)
first-left (c ∷ l) m n (inl p) = inl p
first-left (c ∷ l) m n (inr p) = inr (p.0, first-left l m n p.1)

pub first-right : (l m : List RefusalCase) (n : ℕ) → ((k : ℕ) → SomeHolds l k → ⊥) → First m n → First (l ++ m) n
first-right [] m n none p = p
first-right (c ∷ l) m n none p = inr (λ x. none c.number (inl (x, refl)), first-right l m n (λ k x. none k (inr x)) p)

-- what holds in one of them holds in both in a row, and the other way round
pub some_left : (l m : List RefusalCase) (n : ℕ) → SomeHolds l n → SomeHolds (l ++ m) n
some_left (c ∷ l) m n (inl h) = inl h
some_left (c ∷ l) m n (inr h) = inr (some_left l m n h)
some_left [] m n h = elim h [ ]

pub some_right : (l m : List RefusalCase) (n : ℕ) → SomeHolds m n → SomeHolds (l ++ m) n
some_right [] m n h = h
some_right (c ∷ l) m n h = inr (some_right l m n h)

pub some-split : (l m : List RefusalCase) (n : ℕ) → SomeHolds (l ++ m) n → SomeHolds l n ⊎ SomeHolds m n
some-split [] m n h = inr h
some-split (c ∷ l) m n (inl h) = inl (inl h)
some-split (c ∷ l) m n (inr h) = ⊎_elim (λ q. inl (inr q)) inr (some-split l m n h)

-- ---- the same by the order of judging, whatever the numbers: it holds, and none judged earlier does
pub first-at : (l : List RefusalCase) (n : ℕ) → First l (suc n) → JudgedFirst l (suc n)
first-at [] n e = absurd (omega arith)
first-at (c ∷ l) n (inl p) =
    record { earlier = []; it = c; later = l; all = refl; number = p.1; holds = p.0; none = λ m h. h }
first-at (c ∷ l) n (inr p) =
    let r = first-at l n p.1 in
    record {
      earlier = c ∷ r.earlier;
      it = r.it;
      later = r.later;
      all = ap (λ (x : List RefusalCase). c ∷ x) r.all;
      number = r.number;
      holds = r.holds;
      none = λ m h. ⊎_elim (λ q. p.0 q.0) (r.none m) h;
    }

after-earlier : (l : List RefusalCase) (c : RefusalCase) (m : List RefusalCase) → c.holds → ((k : ℕ) → SomeHolds l k → ⊥) →
    First (l ++ (c ∷ m)) c.number
after-earlier [] c m h none = inl (h, refl)
after-earlier (d ∷ l) c m h none = inr (λ x. none d.number (inl (x, refl)), after-earlier l c m h (λ k x. none k (inr x)))

pub at_first : (l : List RefusalCase) (n : ℕ) → JudgedFirst l n → First l n
at_first l n r =
    let p = after-earlier r.earlier r.it r.later r.holds r.none in
    subst (λ (x : List RefusalCase). First x n) (sym r.all) (subst (First (r.earlier ++ (r.it ∷ r.later))) (sym r.number) p)

-- ---- numbers by clauses, and conditions behind them
module _ (rest : List RefusalCase) where
  pub by-clauses : (l : List Number) (n : ℕ) → judged l ≡ suc n → First (map by_clauses l ++ rest) (suc n)
  unfolding judged
  by-clauses [] n e = absurd (omega arith)
  by-clauses (c ∷ l) n e =
      bool_cases (applies c) (λ g. inl (g, sym (rw g at e))) (λ g. inr (λ h. false≢true (sym g ∙ h), by-clauses l n (rw g at e)))

  pub past-clauses : (k : ℕ) (l : List Number) → above k (map by_clauses l) ≡ true → judged l ≡ 0 → (n : ℕ) → First rest n →
      First (map by_clauses l ++ rest) n
  unfolding judged
  past-clauses k [] a e n f = f
  past-clauses k (c ∷ l) a e n f =
      let p = next-above k (by_clauses c) (map by_clauses l) a in
      let h = p.0 in
      bool_cases (applies c) (λ g. let d : c.number ≡ 0 = rw g at e in absurd (omega arith))
      (λ g. inr (λ h. false≢true (sym g ∙ h), past-clauses c.number l p.1 (rw g at e) n f))

  -- what is first is judged by the clauses, or they judge nothing and it is the first of the rest
  pub clauses-or-rest : (k : ℕ) (l : List Number) → above k (map by_clauses l) ≡ true → (n : ℕ) → First (map by_clauses l ++ rest) n →
      ((k < n) × (judged l ≡ n)) ⊎ ((judged l ≡ 0) × First rest n)
  unfolding judged
  clauses-or-rest k [] a n f = inr (refl, f)
  clauses-or-rest k (c ∷ l) a n (inl p) =
      let g = (next-above k (by_clauses c) (map by_clauses l) a).0 in let e = p.1 in inl (omega arith, rw p.0 (sym e))
  clauses-or-rest k (c ∷ l) a n (inr p) =
      let g = next-above k (by_clauses c) (map by_clauses l) a in
      let h = g.0 in
      bool_cases (applies c) (λ e. absurd (p.0 e))
      (λ e. rw e (⊎_elim (λ q. let j = q.0 in inl (omega arith, q.1)) inr (clauses-or-rest c.number l g.1 n p.1)))
