-- Whole items one after the other, for any item of a level: together they are read to the list of what each is read to, and whole octets
-- split into such items in one way.
use Prim.Native.Nat.{ℕ, ◌<◌}
use mathlib.Core.Path.{◌≡◌, refl, ap, sym, ◌∙◌, subst}
use mathlib.Core.List.{List, [], ◌∷◌, ◌++◌, append-nil}
use native.Mathlib.Omega.{arith}
use lib.ListN.{length, take, length-append}
use lib.Seq.{take-append_seam}
use Rattle.octets.specs.Walk.{whole, Reader, many, Row, no-more, then}
use Rattle.octets.proofs.Walks.{Takes, took-fewer}
use Rattle.octets.proofs.Grammar.{Cuts, row_read, read-row, one_split}

abbrev pub joined : List (List ℕ) → List ℕ
joined [] = []
joined (o ∷ os) = o ++ joined os

-- octets of items, each of which is read to its item with nothing left
pub data Each {A : Type 0} (p : Reader A) : List (List ℕ) → List A → Type 0 where
  none : Each p [] []
  next : {o : List ℕ} {a : A} {os : List (List ℕ)} {l : List A} → p 0 o ≡ whole a [] → Each p os l → Each p (o ∷ os) (a ∷ l)

pub record Split {A : Type 0} (p : Reader A) (s : List ℕ) (l : List A) : Type 0 where
  pub parts : List (List ℕ)
  pub all : s ≡ joined parts
  pub are : Each p parts l

-- what stands in front of the same octets is the same
same-front : (o o' r r' : List ℕ) → o ++ r ≡ o' ++ r' → r ≡ r' → o ≡ o'
same-front o o' r r' e f =
    let n : length o ≡ length o' = omega (arith, ap length e, ap length f, length-append o r, length-append o' r') in
    sym (take-append_seam o r) ∙ (λ j. take (n j) (e j)) ∙ take-append_seam o' r'

module _ {A : Type 0} (p : Reader A) (takes : (b : ℕ) (s : List ℕ) → Takes s (p b s)) (Is : List ℕ → A → Type 0)
    (sound : (b : ℕ) (s : List ℕ) (a : A) (rest : List ℕ) → p b s ≡ whole a rest → Cuts Is s a rest)
    (complete : (b : ℕ) (o rest : List ℕ) (a : A) → Is o a → p b (o ++ rest) ≡ whole a rest) where
  alone : (o : List ℕ) (a : A) → p 0 o ≡ whole a [] → Is o a
  alone o a q = let f = sound 0 o a [] q in subst (λ (y : List ℕ). Is y a) (sym (f.joined ∙ append-nil f.octets)) f.is

  some : (o : List ℕ) (a : A) → p 0 o ≡ whole a [] → 0 < length o
  some o a q = took-fewer o [] (subst (Takes o) q (takes 0 o))

  in_a_row : {os : List (List ℕ)} {l : List A} → Each p os l → Row Is (joined os) l
  in_a_row none = no-more
  in_a_row (next {o} {a} {os} q r) = then o (joined os) (alone o a q) (in_a_row r)

  split-row : {s : List ℕ} {l : List A} → Row Is s l → Split p s l
  split-row no-more = record { parts = []; all = refl; are = none }
  split-row (then o s {a = a} i r) =
      let f = split-row r in
      record {
        parts = o ∷ f.parts;
        all = ap (λ (y : List ℕ). o ++ y) f.all;
        are = next (ap (p 0) (sym (append-nil o)) ∙ complete 0 o [] a i) f.are;
      }

  pub together : {os : List (List ℕ)} {l : List A} → Each p os l → (b : ℕ) → many p b (joined os) ≡ whole l []
  together f b = row_read p takes Is sound complete (in_a_row f) b

  pub splits : (b : ℕ) (s : List ℕ) (l : List A) (rest : List ℕ) → many p b s ≡ whole l rest → Split p s l
  splits b s l rest q = split-row (read-row p takes Is sound complete b s l rest q)

  pub one_way : {os os' : List (List ℕ)} {l l' : List A} → Each p os l → Each p os' l' → joined os ≡ joined os' → (os ≡ os') × (l ≡ l')
  one_way none none e = (refl, refl)
  one_way none (next {o = o} {a = a} {os = os} q r) e =
      absurd (omega (arith, ap length e, length-append o (joined os), some o a q))
  one_way (next {o = o} {a = a} {os = os} q r) none e =
      absurd (omega (arith, ap length e, length-append o (joined os), some o a q))
  one_way (next {o = o} {a = a} {os = os} q r) (next {o = o'} {a = a'} {os = os'} q' r') e =
      let f = one_split p takes Is sound complete o o' (joined os) (joined os') a a' e (alone o a q) (alone o' a' q') in
      let g = same-front o o' (joined os) (joined os') e f.1 in
      let h = one_way r r' f.1 in
      ((λ j. g j ∷ h.0 j), (λ j. f.0 j ∷ h.1 j))
