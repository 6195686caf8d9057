-- Which of the two blocks a Key ID is found in, and where.
use native.Mathlib.Omega.{arith}
use Prim.Native.Nat.{ℕ, zero, suc, ◌+◌, ◌*◌, ◌≤◌, ◌<◌}
use mathlib.Core.Path.{◌≡◌, refl, ap, sym, ◌∙◌}
use mathlib.Core.Bool.{Bool, true, false, cond}
use mathlib.Core.Logic.{◌⊎◌, inl, inr, ⊎_elim}
use mathlib.Core.List.{List, [], ◌∷◌}
use borrow.Author.Tests.{eq-eqb, ne_eqb}
use lib.Dec.{eqb}
use lib.ListN.{length, get_or}
use lib.Seq.{length-take-le}
use Rattle.lists.specs.Lists.{any}
use Rattle.state_keys.specs.Algorithms.{is_wrapping_size}
use Rattle.state_keys.specs.Kinds.{value_of}
use Rattle.lists.proofs.Cases.{bool_cases}
use Rattle.state.specs.Held.{blank_key, ids_of, has, key_with}
use Rattle.state.specs.declared.held.HeldKey.{HeldKey}
use Rattle.unwrap_lending.specs.inner.Lending.{place_octets, Lends, LendsTwo}
use Rattle.unwrap_lending.specs.inner.Named.{FirstAt, first_place, key_start, value_named, octets_named}
use Rattle.unwrap_lending.proofs.Blocks.{AllFit, rest-fits, fits-most, ids-length, found-value, no_value}

-- ---- the first place of a Key ID
rest-first : (id a : ℕ) (l : List ℕ) (r : ℕ) → FirstAt id (a ∷ l) (suc r) → FirstAt id l r
rest-first id a l r f =
    record {
      most = let z = f.most in omega arith;
      passed = λ j h. f.passed (suc j) (omega arith);
      here = λ h. f.here (omega arith);
    }

not_first : (id a : ℕ) (l : List ℕ) (r : ℕ) → FirstAt id (a ∷ l) (suc r) → a ≡ id → ⊥
not_first id a l r f e = f.passed 0 (omega arith) e

pub first_found : (id : ℕ) (l : List ℕ) (r : ℕ) → FirstAt id l r → r < length l → (has id l ≡ true) × (first_place id l ≡ r)
unfolding any first_place
first_found id [] r f h = absurd (omega arith)
first_found id (a ∷ l) zero f h = let e = eq-eqb a id (f.here h) in (rw e refl, rw e refl)
first_found id (a ∷ l) (suc r) f h =
    let e = ne_eqb a id (not_first id a l r f) in
    let q = first_found id l r (rest-first id a l r f) (omega arith) in
    (rw e q.0, rw e (ap suc q.1))

pub first-none : (id : ℕ) (l : List ℕ) (r : ℕ) → FirstAt id l r → length l ≤ r → has id l ≡ false
unfolding any
first-none id [] r f h = refl
first-none id (a ∷ l) zero f h = absurd (omega arith)
first-none id (a ∷ l) (suc r) f h =
    rw (ne_eqb a id (not_first id a l r f)) (first-none id l r (rest-first id a l r f) (omega arith))

-- ---- where the value starts
module _ (id : ℕ) (ids : List ℕ) (r : ℕ) (f : FirstAt id ids r) where
  pub start-found : r < length ids → place_octets * r + 1 ≡ key_start id ids
  start-found h =
      let q = first_found id ids r f h in
      sym (ap (λ (b : Bool). cond b (place_octets * first_place id ids + 1) 0) q.0 ∙ ap (λ (n : ℕ). place_octets * n + 1) q.1)

  pub start_none : length ids ≤ r → 0 ≡ key_start id ids
  start_none h = sym (ap (λ (b : Bool). cond b (place_octets * first_place id ids + 1) 0) (first-none id ids r f h))

-- ---- the two blocks
module _ (id : ℕ) (new old : List HeldKey) (carried fresh ids held : List ℕ) (p : Lends new carried fresh) (q : Lends old ids held)
    (r : ℕ) (f : FirstAt id carried r) where
  by-carried : (b : Bool) → has id carried ≡ b → octets_named id new old ≡ cond b (value_named id new) (value_named id old)
  by-carried b e =
      ap (λ (c : Bool). cond c (value_named id new) (value_named id old)) (ap (has id) (sym p.ids-are) ∙ e)

  pub in-fresh : r < length carried → value_of (get_or new r blank_key).key ≡ octets_named id new old
  in-fresh h =
      found-value new carried fresh p id r f (let n = ids-length new carried fresh p in omega arith)
      ∙ sym (by-carried true (first_found id carried r f h).0)

  module _ (h : length carried ≤ r) (s : ℕ) (g : FirstAt id ids s) where
    pub in_held : s < length ids → value_of (get_or old s blank_key).key ≡ octets_named id new old
    in_held k =
        found-value old ids held q id s g (let n = ids-length old ids held q in omega arith)
        ∙ sym (by-carried false (first-none id carried r f h))

    pub in-neither : length ids ≤ s → [] ≡ octets_named id new old
    in-neither k = no_value old ids held q id s g k ∙ sym (by-carried false (first-none id carried r f h))

-- ---- what is named has no octets, or as many as a wrapping key
size-named : (id : ℕ) (l : List HeldKey) → AllFit l → (length (value_named id l) ≡ 0) ⊎ (is_wrapping_size (length (value_named id l)) ≡ true)
unfolding key_with
size-named id [] h = inl refl
size-named id (k ∷ l) h =
    bool_cases (eqb k.id id)
    (λ g.
    let f = h 0 (omega arith) in
    let a = f.array in
    let m = fits-most k.key f in
    let n : length (value_of k.key) ≡ k.key.count = length-take-le k.key.count k.key.octets (omega arith) in
    rw g (⊎_elim (λ z. inl (n ∙ z)) (λ e. inr (ap is_wrapping_size n ∙ e)) f.size))
    (λ g. rw g (size-named id l (rest-fits k l h)))

pub named-size : (id : ℕ) (new old : List HeldKey) (carried fresh ids block : List ℕ) → LendsTwo new old carried fresh ids block →
    (length (octets_named id new old) ≡ 0 → ⊥) → is_wrapping_size (length (octets_named id new old)) ≡ true
named-size id new old carried fresh ids block lends f =
    bool_cases (has id (ids_of new))
    (λ g.
    let z = rw g at f in
    rw g (⊎_elim (λ e. absurd (z e)) (λ e. e) (size-named id new lends.own.fit)))
    (λ g.
    let z = rw g at f in
    rw g (⊎_elim (λ e. absurd (z e)) (λ e. e) (size-named id old lends.held.fit)))
