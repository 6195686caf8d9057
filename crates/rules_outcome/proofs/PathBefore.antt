-- THE LIST THAT A PATH MAKES, over plain lists: its Key IDs are distinct where the path's are and the old list's are, its keys are those of
-- both, and it is no longer than both. "A member's Key IDs are then distinct" (document 02, T-04) after a fresh path too (T-11).
use native.Mathlib.Omega.{arith}
use Prim.Native.Nat.{ℕ, ◌+◌, ◌≤◌}
use mathlib.Core.Path.{◌≡◌, refl, ap, sym, ◌∙◌, subst}
use mathlib.Core.Bool.{Bool, true, false, false≢true, cond, not}
use mathlib.Core.Logic.{◌⊎◌, inl, inr, ⊎_elim}
use mathlib.Core.List.{List, [], ◌∷◌, ◌++◌, append-nil, Memᴰ}
use borrow.Author.Tests.{eq-eqb, eqb-true, eqb-false, ne_eqb}
use lib.Dec.{eqb}
use lib.ListN.{length, length-append}
use Rattle.lists.specs.Lists.{keep}
use Rattle.lists.proofs.Cases.{bool_cases}
use Rattle.state.specs.declared.held.HeldKey.{HeldKey}
use Rattle.state.specs.Held.{ids_of, has, distinct}
use Rattle.state.proofs.Kept.{distinct-parts}
use Rattle.rules_chains.proofs.WorkingPath.{Distinct}
use Rattle.rules_outcome.specs.Holding.{from_key, on_path, path_before}
use Rattle.rules_outcome.proofs.RunsLists.{none_passes, passes_none, passes-some, member-map}

-- ---- lists of numbers
-- distinct numbers pass the test, and what passes it is distinct
has-not : (a : ℕ) (l : List ℕ) → (Memᴰ a l → ⊥) → has a l ≡ false
has-not a l f = passes_none (λ (b : ℕ). eqb b a) l (λ b m. ne_eqb b a (λ e. f (subst (λ (c : ℕ). Memᴰ c l) e m)))

pub distinct-is : (l : List ℕ) → Distinct l → distinct l ≡ true
unfolding distinct
distinct-is [] d = refl
distinct-is (a ∷ l) d = rw (has-not a l d.0) (distinct-is l d.1)

pub is-distinct : (l : List ℕ) → distinct l ≡ true → Distinct l
is-distinct [] e = tt
is-distinct (a ∷ l) e =
    let p = distinct-parts a l e in
    (λ m. eqb-false a a (none_passes (λ (b : ℕ). eqb b a) l p.0 a m) refl, is-distinct l p.1)

-- ---- members of a list in two parts
member-append : {A : Type 0} (a : A) (l m : List A) → Memᴰ a (l ++ m) → Memᴰ a l ⊎ Memᴰ a m
member-append a [] m i = inr i
member-append a (b ∷ l) m i =
    ⊎_elim (λ e. inl (mathlib.Core.List.Memᴰ.head e)) (λ j. ⊎_elim (λ k. inl (mathlib.Core.List.Memᴰ.tail k)) inr (member-append a l m j)) (mathlib.Core.List.Memᴰ.cases_cons i)

distinct_append : (l m : List ℕ) → Distinct l → Distinct m → ((a : ℕ) → Memᴰ a l → Memᴰ a m → ⊥) → Distinct (l ++ m)
distinct_append [] m d e f = e
distinct_append (a ∷ l) m d e f = (
  λ i. ⊎_elim d.0 (λ j. f a (mathlib.Core.List.Memᴰ.head refl) j) (member-append a l m i),
  distinct_append l m d.1 e (λ b i j. f b (mathlib.Core.List.Memᴰ.tail i) j),
)

ids-append : (l m : List HeldKey) → ids_of (l ++ m) ≡ ids_of l ++ ids_of m
ids-append [] m = refl
ids-append (k ∷ l) m = ap (λ (x : List ℕ). k.id ∷ x) (ids-append l m)

-- a Key ID of some keys is a key's
record Of (i : ℕ) (l : List HeldKey) : Type 0 where
  key : HeldKey
  stands : Memᴰ key l
  is : key.id ≡ i

id-of : (i : ℕ) (l : List HeldKey) → Memᴰ i (ids_of l) → Of i l
id-of i [] m = absurd (mathlib.Core.List.Memᴰ.not-nil m)
id-of i (k ∷ l) m =
    ⊎_elim (λ e. record { key = k; stands = mathlib.Core.List.Memᴰ.head refl; is = sym e })
    (λ n. let r = id-of i l n in record { key = r.key; stands = mathlib.Core.List.Memᴰ.tail r.stands; is = r.is }) (mathlib.Core.List.Memᴰ.cases_cons m)

of-id : (i : ℕ) (l : List HeldKey) → Of i l → Memᴰ i (ids_of l)
of-id i l o = subst (λ (j : ℕ). Memᴰ j (ids_of l)) o.is (member-map (λ (k : HeldKey). k.id) o.key l o.stands)

-- ---- a part of a list that is kept
module _ (q : HeldKey → Bool) where
  member-keep : (l : List HeldKey) (k : HeldKey) → Memᴰ k (keep q l) → Memᴰ k l × (q k ≡ true)
  unfolding keep
  member-keep [] k m = absurd (mathlib.Core.List.Memᴰ.not-nil m)
  member-keep (a ∷ l) k m =
      bool_cases (q a)
      (λ e.
      ⊎_elim (λ g. (mathlib.Core.List.Memᴰ.head g, ap q g ∙ e)) (λ n. let r = member-keep l k n in (mathlib.Core.List.Memᴰ.tail r.0, r.1))
      (mathlib.Core.List.Memᴰ.cases_cons (rw e at m)))
      (λ e. let n : Memᴰ k (keep q l) = rw e at m in let r = member-keep l k n in (mathlib.Core.List.Memᴰ.tail r.0, r.1))

  keep-shorter : (l : List HeldKey) → length (keep q l) ≤ length l
  unfolding keep
  keep-shorter [] = omega arith
  keep-shorter (a ∷ l) =
      let h = keep-shorter l in bool_cases (q a) (λ e. rw e (omega arith)) (λ e. rw e (omega arith))

  distinct-keep : (l : List HeldKey) → Distinct (ids_of l) → Distinct (ids_of (keep q l))
  unfolding keep
  distinct-keep [] d = tt
  distinct-keep (a ∷ l) d =
      let r = distinct-keep l d.1 in
      let out : Memᴰ a.id (ids_of (keep q l)) → ⊥ =
      λ m.
      let o = id-of a.id (keep q l) m in
      d.0 (of-id a.id l (record { key = o.key; stands = (member-keep l o.key o.stands).0; is = o.is })) in
      bool_cases (q a) (λ e. rw e (out, r)) (λ e. rw e r)

-- ---- the held key with a Key ID and those behind it
pub member-from : (i : ℕ) (l : List HeldKey) (k : HeldKey) → Memᴰ k (from_key i l) → Memᴰ k l
unfolding from_key
member-from i [] k m = m
member-from i (a ∷ l) k m =
    bool_cases (eqb a.id i) (λ e. rw e at m) (λ e. let n : Memᴰ k (from_key i l) = rw e at m in mathlib.Core.List.Memᴰ.tail (member-from i l k n))

from-shorter : (i : ℕ) (l : List HeldKey) → length (from_key i l) ≤ length l
unfolding from_key
from-shorter i [] = omega arith
from-shorter i (a ∷ l) =
    let h = from-shorter i l in bool_cases (eqb a.id i) (λ e. rw e (omega arith)) (λ e. rw e (omega arith))

distinct_from : (i : ℕ) (l : List HeldKey) → Distinct (ids_of l) → Distinct (ids_of (from_key i l))
unfolding from_key
distinct_from i [] d = tt
distinct_from i (a ∷ l) d = bool_cases (eqb a.id i) (λ e. rw e d) (λ e. rw e (distinct_from i l d.1))

-- where a held key has the Key ID, the list has it first behind those that go
pub record Cut (i : ℕ) (l : List HeldKey) : Type 0 where
  pub ahead : List HeldKey
  pub key : HeldKey
  pub behind : List HeldKey
  pub all : l ≡ ahead ++ (key ∷ behind)
  pub is : key.id ≡ i
  pub left : from_key i l ≡ key ∷ behind

pub cut_at : (i : ℕ) (l : List HeldKey) (k : HeldKey) → Memᴰ k l → k.id ≡ i → Cut i l
unfolding from_key
cut_at i [] k m e = absurd (mathlib.Core.List.Memᴰ.not-nil m)
cut_at i (a ∷ l) k m e =
    bool_cases (eqb a.id i)
    (λ g. record { ahead = []; key = a; behind = l; all = refl; is = eqb-true a.id i g; left = rw g refl })
    (λ g.
    ⊎_elim (λ q. absurd (eqb-false a.id i g (ap (λ (b : HeldKey). b.id) (sym q) ∙ e)))
    (λ n.
    let r = cut_at i l k n e in
    record {
      ahead = a ∷ r.ahead;
      key = r.key;
      behind = r.behind;
      all = ap (λ (x : List HeldKey). a ∷ x) r.all;
      is = r.is;
      left = rw g r.left;
    })
    (mathlib.Core.List.Memᴰ.cases_cons m))

-- and where the Key IDs are distinct, wherever the list is cut before that key
pub left-of : (i : ℕ) (ahead : List HeldKey) (k : HeldKey) (behind : List HeldKey) → Distinct (ids_of (ahead ++ (k ∷ behind))) →
    k.id ≡ i → from_key i (ahead ++ (k ∷ behind)) ≡ k ∷ behind
unfolding from_key
left-of i [] k behind d e = rw (eq-eqb k.id i e) refl
left-of i (a ∷ l) k behind d e =
    let other : a.id ≡ i → ⊥ =
    λ q.
    d.0
    (of-id a.id (l ++ (k ∷ behind))
    (record { key = k; stands = mathlib.Core.List.Memᴰ.append_right l (mathlib.Core.List.Memᴰ.head refl); is = e ∙ sym q })) in
    rw (ne_eqb a.id i other) (left-of i l k behind d.1 e)

module _ (path : List HeldKey) (end : ℕ) (old : List HeldKey) where
  abbrev off : HeldKey → Bool
  off k = not (on_path path k)

  abbrev rest : List HeldKey
  rest = cond (eqb end 0) [] (keep off (from_key end old))

  -- each of its keys is one of the path or an old one
  pub path-or-old : (k : HeldKey) → Memᴰ k (path_before path end old) → Memᴰ k path ⊎ Memᴰ k old
  unfolding path_before
  path-or-old k m =
      ⊎_elim inl
      (λ n.
      bool_cases (eqb end 0) (λ e. let z : Memᴰ k [] = rw e at n in absurd (mathlib.Core.List.Memᴰ.not-nil z))
      (λ e.
      let z : Memᴰ k (keep off (from_key end old)) = rw e at n in
      inr (member-from end old k (member-keep off (from_key end old) k z).0)))
      (member-append k path rest m)

  -- no Key ID of the path stands behind it
  not_behind : (i : ℕ) → Memᴰ i (ids_of path) → Memᴰ i (ids_of (keep off (from_key end old))) → ⊥
  not_behind i m n =
      let p = id-of i path m in
      let o = id-of i (keep off (from_key end old)) n in
      let q = (member-keep off (from_key end old) o.key o.stands).1 in
      let e : p.key.id ≡ o.key.id = p.is ∙ sym o.is in
      let g = passes-some (λ (a : HeldKey). eqb a.id o.key.id) path p.key p.stands (eq-eqb p.key.id o.key.id e) in
      false≢true (ap not (sym g) ∙ q)

  module _ (once : distinct (ids_of path) ≡ true) (each : distinct (ids_of old) ≡ true) where
    rest-distinct : Distinct (ids_of rest)
    rest-distinct =
        bool_cases (eqb end 0) (λ e. rw e tt)
        (λ e. rw e (distinct-keep off (from_key end old) (distinct_from end old (is-distinct (ids_of old) each))))

    apart : (i : ℕ) → Memᴰ i (ids_of path) → Memᴰ i (ids_of rest) → ⊥
    apart i m n =
        bool_cases (eqb end 0) (λ e. let z : Memᴰ i [] = rw e at n in mathlib.Core.List.Memᴰ.not-nil z)
        (λ e. let z : Memᴰ i (ids_of (keep off (from_key end old))) = rw e at n in not_behind i m z)

    pub before-distinct : distinct (ids_of (path_before path end old)) ≡ true
    unfolding path_before
    before-distinct =
        distinct-is (ids_of (path ++ rest))
        (subst Distinct (sym (ids-append path rest))
        (distinct_append (ids_of path) (ids_of rest) (is-distinct (ids_of path) once) rest-distinct apart))

  pub before-shorter : length (path_before path end old) ≤ length path + length old
  unfolding path_before
  before-shorter =
      let n = length-append path rest in
      let a = keep-shorter off (from_key end old) in
      let b = from-shorter end old in
      let c : length rest ≤ length old = bool_cases (eqb end 0) (λ e. rw e (omega arith)) (λ e. rw e (omega (arith, a, b))) in
      omega (arith, n, c)

-- "A fresh path that ends on the default key is the whole list"
pub before-default : (path old : List HeldKey) → path_before path 0 old ≡ path
unfolding path_before
before-default path old = append-nil path

-- of an empty list nothing is left
pub before-none : (path : List HeldKey) (end : ℕ) → path_before path end [] ≡ path
unfolding path_before from_key keep
before-none path end = bool_cases (eqb end 0) (λ e. rw e (append-nil path)) (λ e. rw e (append-nil path))
