-- "Compared number by number", of finitely many lists one comes first.
use native.Mathlib.Omega.{arith}
use native.Mathlib.Decide.{ℕ_discrete, dec_lt}
use Prim.Native.Nat.{ℕ, ◌≤◌, ◌<◌}
use mathlib.Core.Path.{◌≡◌, refl, sym, ◌∙◌, subst}
use mathlib.Core.Logic.{◌⊎◌, inl, inr, ⊎_elim, by_cases}
use mathlib.Core.List.Memᴰ
use mathlib.Core.List.{List, [], ◌∷◌, ◌++◌, Memᴰ}
use lib.ListN.{length}
use Rattle.rules_chains.specs.Path.{NotAfter}

either_way : (l m : List ℕ) → NotAfter l m ⊎ NotAfter m l
either_way [] m = inl tt
either_way (a ∷ l) [] = inr tt
either_way (a ∷ l) (b ∷ m) =
    by_cases (dec_lt a b) (λ h. inl (inl h))
    (λ h.
    by_cases (ℕ_discrete a b) (λ e. ⊎_elim (λ r. inl (inr (e, r))) (λ r. inr (inr (sym e, r))) (either_way l m))
    (λ f. inr (inl (above a b h f))))
  where
    above : (a b : ℕ) → (a < b → ⊥) → (a ≡ b → ⊥) → b < a
    above a b h f = omega arith

chained : (l m n : List ℕ) → NotAfter l m → NotAfter m n → NotAfter l n
chained [] m n p q = tt
chained (a ∷ l) [] n p q = absurd p
chained (a ∷ l) (b ∷ m) [] p q = absurd q
chained (a ∷ l) (b ∷ m) (c ∷ n) (inl p) (inl q) = inl (omega arith)
chained (a ∷ l) (b ∷ m) (c ∷ n) (inl p) (inr q) = let e = q.0 in inl (omega arith)
chained (a ∷ l) (b ∷ m) (c ∷ n) (inr p) (inl q) = let e = p.0 in inl (omega arith)
chained (a ∷ l) (b ∷ m) (c ∷ n) (inr p) (inr q) = inr (p.0 ∙ q.0, chained l m n p.1 q.1)

self : (l : List ℕ) → NotAfter l l
self [] = tt
self (x ∷ l) = inr (refl, self l)

-- lists of one length with a number more: the lists come first, and among equal ones the number decides
pub front-first : (l m : List ℕ) (a b : ℕ) → length l ≡ length m → NotAfter (l ++ (a ∷ [])) (m ++ (b ∷ [])) → NotAfter l m
front-first [] m a b e h = tt
front-first (x ∷ l) [] a b e h = absurd (omega arith)
front-first (x ∷ l) (y ∷ m) a b e (inl h) = inl h
front-first (x ∷ l) (y ∷ m) a b e (inr h) = inr (h.0, front-first l m a b (omega arith) h.1)

pub last-least : (l : List ℕ) (a b : ℕ) → NotAfter (l ++ (a ∷ [])) (l ++ (b ∷ [])) → a ≤ b
last-least [] a b (inl h) = omega arith
last-least [] a b (inr h) = let e = h.0 in omega arith
last-least (x ∷ l) a b (inl h) = absurd (omega arith)
last-least (x ∷ l) a b (inr h) = last-least l a b h.1

module _ {A : Type 0} (key : A → List ℕ) where
  -- one of the list whose numbers come after those of no other
  pub record First (l : List A) : Type 0 where
    pub it : A
    pub stands : Memᴰ it l
    pub least : (b : A) → Memᴰ b l → NotAfter (key it) (key b)

  at_head : (a b : A) → b ≡ a → NotAfter (key a) (key b)
  at_head a b e = subst (λ (x : A). NotAfter (key a) (key x)) (sym e) (self (key a))

  joined : (a : A) (l : List A) → First l → First (a ∷ l)
  joined a l f =
      ⊎_elim
      (λ p.
      record {
        it = a;
        stands = Memᴰ.head refl;
        least = λ b m.
            ⊎_elim (at_head a b) (λ n. chained (key a) (key f.it) (key b) p (f.least b n)) (Memᴰ.cases_cons m);
      })
      (λ p.
      record {
        it = f.it;
        stands = Memᴰ.tail f.stands;
        least = λ b m.
            ⊎_elim (λ e. subst (λ (x : A). NotAfter (key f.it) (key x)) (sym e) p) (λ n. f.least b n) (Memᴰ.cases_cons m);
      })
      (either_way (key a) (key f.it))

  first_of : (a : A) (l : List A) → First (a ∷ l)
  first_of a [] =
      record {
        it = a;
        stands = Memᴰ.head refl;
        least = λ b m. ⊎_elim (at_head a b) (λ n. absurd (Memᴰ.not-nil n)) (Memᴰ.cases_cons m);
      }
  first_of a (b ∷ l) = joined a (b ∷ l) (first_of b l)

  pub first-with : (a : A) (l : List A) → Memᴰ a l → First l
  first-with a [] m = absurd (Memᴰ.not-nil m)
  first-with a (b ∷ l) m = first_of b l
