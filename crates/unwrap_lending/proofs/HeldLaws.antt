-- A held list that is as a member's must be: its limit, its keys' sizes, their Key IDs.
use native.Mathlib.Omega.{arith}
use Prim.Native.Nat.{ℕ, zero, suc, ◌≤◌, ◌<◌}
use mathlib.Core.Path.{◌≡◌, refl, ap, sym, ◌∙◌}
use mathlib.Core.Bool.{Bool, true, not, ◌&&◌, false≢true}
use mathlib.Core.Logic.{◌⊎◌, inl, inr, ⊎_elim}
use mathlib.Core.List.Memᴰ
use mathlib.Core.List.{List, [], ◌∷◌, Memᴰ}
use borrow.Author.Tests.{eq-eqb, leb-true}
use lib.Dec.{leb, eqb}
use lib.ListN.{length, get_or}
use lib.Seq.{length-take-le, get_or-take}
use Rattle.state_keys.specs.Limits.{limits}
use Rattle.lists.specs.Lists.{all}
use Rattle.state_keys.specs.Algorithms.{is_wrapping_size}
use Rattle.lists.proofs.Cases.{bool_cases, and_parts}
use Rattle.state.specs.Held.{keys_of, key_formed, ids_of, distinct, held_formed, key_with}
use Rattle.state.specs.declared.held.HeldKey.{HeldKey}
use Rattle.state.specs.declared.held.Held.{Held}
use Rattle.state_keys.specs.Kinds.{key_or_blank}

pub key-size : (k : HeldKey) → key_formed k ≡ true → is_wrapping_size k.key.count ≡ true
unfolding key_formed
key-size k e = (and_parts (not (eqb k.id 0)) (is_wrapping_size k.key.count) e).1

pub key-nonzero : (k : HeldKey) → key_formed k ≡ true → k.id ≡ 0 → ⊥
unfolding key_formed
key-nonzero k e z =
    false≢true (sym (ap not (eq-eqb k.id 0 z)) ∙ (and_parts (not (eqb k.id 0)) (is_wrapping_size k.key.count) e).0)

pub all-member : (k : HeldKey) (l : List HeldKey) → all key_formed l ≡ true → Memᴰ k l → key_formed k ≡ true
unfolding all
all-member k [] q m = absurd (Memᴰ.not-nil m)
all-member k (a ∷ l) q m =
    let p = and_parts (key_formed a) (all key_formed l) q in
    ⊎_elim (λ z. ap key_formed z ∙ p.0) (λ z. all-member k l p.1 z) (Memᴰ.cases_cons m)

all-at : {A : Type 0} (p : A → Bool) (l : List A) (i : ℕ) (d : A) → all p l ≡ true → i < length l → p (get_or l i d) ≡ true
unfolding all
all-at p [] i d e h = absurd (omega arith)
all-at p (a ∷ l) zero d e h = (and_parts (p a) (all p l) e).0
all-at p (a ∷ l) (suc i) d e h = all-at p l i d (and_parts (p a) (all p l) e).1 (omega arith)

pub get_d_any : {A : Type 0} (l : List A) (i : ℕ) (a b : A) → i < length l → get_or l i a ≡ get_or l i b
get_d_any [] i a b h = absurd (omega arith)
get_d_any (x ∷ l) zero a b h = refl
get_d_any (x ∷ l) (suc i) a b h = get_d_any l i a b (omega arith)

-- the key that is found by its Key ID has the size of a wrapping key, or no octets
pub found-sized : (id : ℕ) (l : List HeldKey) → all key_formed l ≡ true →
    ((key_or_blank (key_with id l)).count ≡ 0) ⊎ (is_wrapping_size (key_or_blank (key_with id l)).count ≡ true)
unfolding key_with all
found-sized id [] a = inl refl
found-sized id (k ∷ l) a =
    let p = and_parts (key_formed k) (all key_formed l) a in
    bool_cases (eqb k.id id) (λ g. rw g (inr (key-size k p.0))) (λ g. rw g (found-sized id l p.1))

module _ (h : Held) (e : held_formed limits h ≡ true) where
  abbrev keys-are : Bool
  keys-are = all key_formed (keys_of h) && distinct (ids_of (keys_of h))

  parts : (leb h.count limits.held_keys ≡ true) × (keys-are ≡ true)
  unfolding held_formed
  parts = and_parts (leb h.count limits.held_keys) keys-are e

  pub held-within : h.count ≤ limits.held_keys
  held-within = leb-true h.count limits.held_keys parts.0

  pub held-formed : all key_formed (keys_of h) ≡ true
  held-formed = (and_parts (all key_formed (keys_of h)) (distinct (ids_of (keys_of h))) parts.1).0

  pub held-distinct : distinct (ids_of (keys_of h)) ≡ true
  held-distinct = (and_parts (all key_formed (keys_of h)) (distinct (ids_of (keys_of h))) parts.1).1

  pub held-size : length h.keys ≡ limits.held_keys → (i : ℕ) (d : HeldKey) → i < h.count →
      is_wrapping_size (get_or h.keys i d).key.count ≡ true
  held-size n i d g =
      let w = held-within in
      let m = length-take-le h.count h.keys (omega arith) in
      key-size (get_or h.keys i d)
      (ap key_formed (sym (get_or-take h.count h.keys i d g)) ∙ all-at key_formed (keys_of h) i d held-formed (omega arith))

  -- no held key is key 0
  pub not-zero : (k : HeldKey) → Memᴰ k (keys_of h) → k.id ≡ 0 → ⊥
  not-zero k m = key-nonzero k (all-member k (keys_of h) held-formed m)
