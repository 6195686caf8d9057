-- What the tests on one transform, and on the counts of several, say.
use Prim.Native.Nat.{ℕ, ◌+◌}
use mathlib.Core.Path.{◌≡◌, refl, ap, sym, ◌∙◌}
use mathlib.Core.List.{List, [], ◌∷◌}
use mathlib.Core.Bool.{Bool, true, false, not, cond, ◌&&◌, ◌||◌, false≢true, and-true, or-false}
use native.Mathlib.Omega.{arith}
use borrow.Author.Tests.{eq-eqb, ne_eqb, eqb-true, lt-ltb, ltb-true, ltb-false}
use lib.Dec.{ltb, eqb}
use lib.ListN.{length, length-map}
use Rattle.wire_attributes.specs.Place.{in_transform}
use Rattle.wire_attributes.specs.Tree.{number16}
use Rattle.wire_attributes.specs.declared.tables.Place.{Place}
use Rattle.wire_attributes.specs.declared.tables.Meaning.TheVariants.{KeyLength}
use Rattle.lists.specs.Lists.{all, any, count}
use Rattle.state_keys.specs.Algorithms.{needed_by}
use Rattle.lists.proofs.Cases.{bool_cases}
use Rattle.wire_policies.specs.Transform.{Transform}
use Rattle.wire_policies.specs.Policy.{GroupSaPolicy}
use Rattle.wire_readers.specs.inner.Values.{values_in}
use Rattle.rules_refusals.specs.Fitness.{octets_needed, is_octets, encryption_fits, key_wrap_fits, sequence_numbers_fit, authentication_fits}
use Rattle.rules_refusals.specs.Fitness.{exact_transforms}
use Rattle.rules_refusals.specs.Fitness.{transforms_fit, sum, encryption_needs, key_wrap_needs}
use Rattle.rules_refusals.specs.Number4.{twice_in_transform}
use Rattle.check_suites.specs.inner.Suites.{suite_of, fit_by}
use Rattle.check_suites.specs.inner.Octets.{key_length_needs, transform_in}
use Rattle.wire_readers.specs.inner.Values.{once}
use Rattle.check_suites.specs.declared.counts.SuiteCounts.{SuiteCounts}
use Rattle.check_suites.proofs.RowLaws.{some-octets}

-- a type and one of two IDs
module _ (k i w a b : ℕ) where
  pub first-id : k ≡ w → i ≡ a → true ≡ (eqb k w && (eqb i a || eqb i b))
  first-id e f = rw (eq-eqb k w e, eq-eqb i a f)

  pub second-id : k ≡ w → (i ≡ a → ⊥) → eqb i b ≡ (eqb k w && (eqb i a || eqb i b))
  second-id e f = rw (eq-eqb k w e, ne_eqb i a f)

  pub other-type : (k ≡ w → ⊥) → false ≡ (eqb k w && (eqb i a || eqb i b))
  other-type e = rw (ne_eqb k w e)

-- WHAT ONE TRANSFORM NEEDS
module _ (k i : ℕ) (s : List ℕ) where
  pub encryption-type : (p : Place) (n : ℕ) → k ≡ 1 → p ≡ in_transform k → n ≡ key_length_needs i p s → n ≡ encryption_needs (transform_in k i s)
  encryption-type p n e f q =
      q ∙ ap (λ (x : Place). key_length_needs i x s) f
      ∙ ap (λ (t : Bool). cond t (key_length_needs i (in_transform k) s) 0) (sym (eq-eqb k 1 e))

  pub no-encryption : (k ≡ 1 → ⊥) → 0 ≡ encryption_needs (transform_in k i s)
  no-encryption e = ap (λ (t : Bool). cond t (key_length_needs i (in_transform k) s) 0) (sym (ne_eqb k 1 e))

  pub key-wrap-type : (n : ℕ) → k ≡ 13 → n ≡ octets_needed (needed_by 13 i 0) → n ≡ key_wrap_needs (transform_in k i s)
  key-wrap-type n e q = q ∙ ap (λ (t : Bool). cond t (octets_needed (needed_by 13 i 0)) 0) (sym (eq-eqb k 13 e))

  pub no-key-wrap : (k ≡ 13 → ⊥) → 0 ≡ key_wrap_needs (transform_in k i s)
  no-key-wrap e = ap (λ (t : Bool). cond t (octets_needed (needed_by 13 i 0)) 0) (sym (ne_eqb k 13 e))

-- one that needs octets is fit, as every row needs some
some-sum : (x y : ℕ) → (ltb 0 x || ltb 0 y) ≡ ltb 0 (x + y)
some-sum x y =
    bool_cases (ltb 0 x)
    (λ e. ap (λ (t : Bool). t || ltb 0 y) e ∙ sym (lt-ltb 0 (x + y) (omega (arith, ltb-true 0 x e))))
    (λ e. let z : x + y ≡ y = omega (arith, ltb-false 0 x e) in ap (λ (t : Bool). t || ltb 0 y) e ∙ ap (ltb 0) (sym z))

any-row : (i : ℕ) (l : List ℕ) → any (λ (b : ℕ). is_octets (needed_by 1 i b)) l ≡ ltb 0 (sum (λ (b : ℕ). octets_needed (needed_by 1 i b)) l)
unfolding any sum
any-row i [] = refl
any-row i (b ∷ l) =
    (λ j. some-octets 1 i b j || any-row i l j)
    ∙ some-sum (octets_needed (needed_by 1 i b)) (sum (λ (b : ℕ). octets_needed (needed_by 1 i b)) l)

if_some : (t : Bool) (n : ℕ) → ltb 0 (cond t n 0) ≡ (t && ltb 0 n)
if_some true n = refl
if_some false n = refl

encryption-fits : (t : Transform) → ltb 0 (encryption_needs t) ≡ encryption_fits t
unfolding encryption_fits
encryption-fits t =
    if_some (eqb t.kind 1) (sum (λ (b : ℕ). octets_needed (needed_by 1 t.id b)) t.key_lengths)
    ∙ ap (λ (u : Bool). eqb t.kind 1 && u) (sym (any-row t.id t.key_lengths))

key-wrap-fits : (t : Transform) → ltb 0 (key_wrap_needs t) ≡ key_wrap_fits t
unfolding key_wrap_fits
key-wrap-fits t =
    if_some (eqb t.kind 13) (octets_needed (needed_by 13 t.id 0))
    ∙ ap (λ (u : Bool). eqb t.kind 13 && u) (sym (some-octets 13 t.id 0))

-- WHAT ONE TRANSFORM COMES TO
counted : (q : Transform → Bool) (t : Transform) (n : ℕ) (b : Bool) → n ≡ once b → b ≡ q t → n ≡ count q (t ∷ [])
unfolding count
counted q t n b e f = e ∙ ap once f

module _ (k i : ℕ) (s : List ℕ) where
  pub one-is : (e w m : ℕ) → e ≡ encryption_needs (transform_in k i s) → w ≡ key_wrap_needs (transform_in k i s)
      → (p : Place) → p ≡ in_transform k → m ≡ length (values_in KeyLength p s) → (x y : Bool) → x ≡ (eqb k 5 && (eqb i 0 || eqb i 2))
      → y ≡ (eqb k 14 && (eqb i 1 || eqb i 2)) → (a b c d f : ℕ) → a ≡ once (ltb 0 e) → b ≡ once (ltb 0 w) → c ≡ once x → d ≡ once y
      → f ≡ once (ltb 1 m)
      → ◌≡◌ {A = SuiteCounts} (record { count = 1; encryption = a; wrapping = b; sequence = c; authentication = d; doubled = f })
      (suite_of (transform_in k i s ∷ []))
  unfolding sequence_numbers_fit authentication_fits
  one-is e w m eq wq p pq mq x y xq yq a b c d f aq bq cq dq fq =
      let t = transform_in k i s in
      let l : m ≡ length t.key_lengths =
      mq ∙ ap (λ (z : Place). length (values_in KeyLength z s)) pq ∙ sym (length-map (values_in KeyLength (in_transform k) s) number16) in
      λ j. record {
        count = 1;
        encryption = counted encryption_fits t a (ltb 0 e) aq (ap (ltb 0) eq ∙ encryption-fits t) j;
        wrapping = counted key_wrap_fits t b (ltb 0 w) bq (ap (ltb 0) wq ∙ key-wrap-fits t) j;
        sequence = counted sequence_numbers_fit t c x cq xq j;
        authentication = counted authentication_fits t d y dq yq j;
        doubled = counted twice_in_transform t f (ltb 1 m) fq (ap (ltb 1) l) j;
      }

-- WHICH TRANSFORMS A POLICY HAS
and_last : (a b c : Bool) → ((a && b) && c) ≡ (a && (b && (c && true)))
and_last true true c = sym (and-true c)
and_last true false c = refl
and_last false b c = refl

-- e for ESP, k for a Rekey policy: the transforms of an ESP policy, of a Rekey policy with authentication and without
either_way : (e k a x s u : Bool) {v w t : Bool} → x ≡ v → s ≡ w → u ≡ t → (e ≡ true → k ≡ false)
    → ((e && x) || (k && ((a && s) || (not a && u)))) ≡ cond e v (k && cond a w t)
either_way true true a x s u p q r f = absurd (false≢true (sym (f refl)))
either_way true false a x s u p q r f = or-false x ∙ p
either_way false true true x s u p q r f = or-false s ∙ q
either_way false true false x s u p q r f = r
either_way false false a x s u p q r f = refl

module _ (p : GroupSaPolicy) where
  abbrev u : SuiteCounts
  u = suite_of p.transforms

  one-protocol : eqb p.protocol 3 ≡ true → eqb p.protocol 6 ≡ false
  one-protocol e = ap (λ (n : ℕ). eqb n 6) (eqb-true p.protocol 3 e)

  pub fits : (authentication : Bool) → fit_by authentication p.protocol u ≡ transforms_fit authentication p
  unfolding transforms_fit exact_transforms all
  fits true =
      either_way (eqb p.protocol 3) (eqb p.protocol 6) true _ _ false
      (ap (λ (b : Bool). eqb u.count 2 && (eqb u.encryption 1 && b)) (sym (and-true (eqb u.sequence 1))))
      (ap (λ (b : Bool). eqb u.count 3 && b) (and_last (eqb u.encryption 1) (eqb u.wrapping 1) (eqb u.authentication 1)))
      refl one-protocol
  fits false =
      either_way (eqb p.protocol 3) (eqb p.protocol 6) false _ false _
      (ap (λ (b : Bool). eqb u.count 2 && (eqb u.encryption 1 && b)) (sym (and-true (eqb u.sequence 1))))
      refl (ap (λ (b : Bool). eqb u.count 2 && (eqb u.encryption 1 && b)) (sym (and-true (eqb u.wrapping 1)))) one-protocol
