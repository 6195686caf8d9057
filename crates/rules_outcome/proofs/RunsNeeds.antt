-- The octets that a policy needs whose transforms are fit and have no Key Length twice: a first and a second number of the algorithm table.
use native.Mathlib.Omega.{arith}
use Prim.Native.Nat.{ℕ, suc, ◌+◌}
use mathlib.Core.Path.{◌≡◌, refl, ap, sym, ◌∙◌}
use mathlib.Core.Bool.{Bool, true, false, ◌&&◌, ◌||◌, false≢true}
use mathlib.Core.List.{List, [], ◌∷◌, Memᴰ}
use borrow.Author.Tests.{ne_eqb, eqb-true, ltb-false}
use lib.Dec.{eqb, ltb}
use lib.ListN.{length}
use Rattle.lists.specs.Lists.{all, any, count}
use Rattle.state_keys.specs.Algorithms.{needed_by, is_wrapping_size, is_encryption_size}
use Rattle.state_keys.specs.Kinds.{rekey_sizes}
use Rattle.std.specs.Prelude.{Option, Some, None}
use Rattle.lists.proofs.Cases.{bool_cases, and_parts, and-whole}
use Rattle.state_keys.proofs.Sizes.{needed-size}
use Rattle.wire_policies.specs.Transform.{Transform}
use Rattle.wire_policies.specs.Policy.{GroupSaPolicy}
use Rattle.rules_refusals.specs.Fitness.{is_esp, is_rekey, octets_needed, is_octets}
use Rattle.rules_refusals.specs.Fitness.{encryption_fits, key_wrap_fits, sequence_numbers_fit, authentication_fits}
use Rattle.rules_refusals.specs.Fitness.{exact_transforms, rekey_transforms, transforms_fit, sum, encryption_needs, key_wrap_needs}
use Rattle.rules_refusals.specs.Fitness.{encryption_octets}
use Rattle.rules_refusals.specs.Fitness.{key_wrap_octets}
use Rattle.rules_refusals.specs.Number4.{twice_in_transform}
use Rattle.rules_outcome.proofs.RunsLists.{none_passes, count_none, count-full, count-or}

-- ---- a sum to which one element contributes
pub record OneGives {A : Type 0} (p : A → Bool) (w : A → ℕ) (l : List A) : Type 0 where
  pub one : A
  pub stands : Memᴰ one l
  pub passes : p one ≡ true
  pub is : sum w l ≡ w one

module _ {A : Type 0} (w : A → ℕ) where
  pub sum-none : (l : List A) → ((a : A) → Memᴰ a l → w a ≡ 0) → sum w l ≡ 0
  unfolding sum
  sum-none [] f = refl
  sum-none (a ∷ l) f = let e = f a (Memᴰ.head refl) in let h = sum-none l (λ b m. f b (Memᴰ.tail m)) in omega arith

  sum_one : (p : A → Bool) (l : List A) → ((a : A) → Memᴰ a l → p a ≡ false → w a ≡ 0) → count p l ≡ 1 → OneGives p w l
  unfolding sum count
  sum_one p [] f e = absurd (omega arith)
  sum_one p (a ∷ l) f e =
      bool_cases (p a)
      (λ g.
      let k : count p l + 1 ≡ 1 = rw g at e in
      let none = none_passes p l (count_none p l (omega arith)) in
      let z = sum-none l (λ b m. f b (Memᴰ.tail m) (none b m)) in
      record { one = a; stands = Memᴰ.head refl; passes = g; is = omega arith })
      (λ g.
      let r = sum_one p l (λ b m. f b (Memᴰ.tail m)) (rw g at e) in
      let z = f a (Memᴰ.head refl) g in
      let s = r.is in
      record { one = r.one; stands = Memᴰ.tail r.stands; passes = r.passes; is = omega arith })

-- ---- each way of being fit has a transform type of its own
module _ (t : Transform) where
  encryption-kind : encryption_fits t ≡ true → t.kind ≡ 1
  unfolding encryption_fits
  encryption-kind e = eqb-true t.kind 1 (and_parts (eqb t.kind 1) _ e).0

  key-wrap-kind : key_wrap_fits t ≡ true → t.kind ≡ 13
  unfolding key_wrap_fits
  key-wrap-kind e = eqb-true t.kind 13 (and_parts (eqb t.kind 13) _ e).0

  sequence-kind : sequence_numbers_fit t ≡ true → t.kind ≡ 5
  unfolding sequence_numbers_fit
  sequence-kind e = eqb-true t.kind 5 (and_parts (eqb t.kind 5) _ e).0

  authentication-kind : authentication_fits t ≡ true → t.kind ≡ 14
  unfolding authentication_fits
  authentication-kind e = eqb-true t.kind 14 (and_parts (eqb t.kind 14) _ e).0

  no-encryption : (t.kind ≡ 1 → ⊥) → encryption_needs t ≡ 0
  no-encryption f = rw (ne_eqb t.kind 1 f)

  no-key-wrap : (t.kind ≡ 13 → ⊥) → key_wrap_needs t ≡ 0
  no-key-wrap f = rw (ne_eqb t.kind 13 f)

-- ---- exactly one that is fit in each of these ways, and no other: each transform is fit in one of them
false_of : (t : Transform) (p : Transform → Bool) (m n : ℕ) → (p t ≡ true → t.kind ≡ m) → t.kind ≡ n → (m ≡ n → ⊥) → p t ≡ false
false_of t p m n f e d = bool_cases (p t) (λ g. absurd (d (sym (f g) ∙ e))) (λ g. g)

or-of : (a b : Bool) → (a || b) ≡ true → a ≡ false → b ≡ true
or-of true b e f = absurd (false≢true (sym f))
or-of false b e f = e

module _ (l : List Transform) where
  pub record Two (p q : Transform → Bool) : Type 0 where
    pub first : count p l ≡ 1
    pub second : count q l ≡ 1
    pub each : (t : Transform) → Memᴰ t l → (p t || q t) ≡ true

  exactly-two : (p q : Transform → Bool) → ((t : Transform) → p t ≡ true → q t ≡ false) → exact_transforms (p ∷ q ∷ []) l ≡ true → Two p q
  unfolding exact_transforms all
  exactly-two p q d e =
      let x = and_parts (eqb (length l) 2) (eqb (count p l) 1 && (eqb (count q l) 1 && true)) e in
      let y = and_parts (eqb (count p l) 1) (eqb (count q l) 1 && true) x.1 in
      let z = and_parts (eqb (count q l) 1) true y.1 in
      let n = eqb-true (length l) 2 x.0 in
      let a = eqb-true (count p l) 1 y.0 in
      let b = eqb-true (count q l) 1 z.0 in
      let c = count-or p q d l in
      record { first = a; second = b; each = count-full (λ (t : Transform). p t || q t) l (omega arith) }

  pub record Three (p q r : Transform → Bool) : Type 0 where
    pub first : count p l ≡ 1
    pub second : count q l ≡ 1
    pub each : (t : Transform) → Memᴰ t l → (p t || (q t || r t)) ≡ true

  exactly-three : (p q r : Transform → Bool) → ((t : Transform) → q t ≡ true → r t ≡ false) →
      ((t : Transform) → p t ≡ true → (q t || r t) ≡ false) → exact_transforms (p ∷ q ∷ r ∷ []) l ≡ true → Three p q r
  unfolding exact_transforms all
  exactly-three p q r d d' e =
      let x = and_parts (eqb (length l) 3) (eqb (count p l) 1 && (eqb (count q l) 1 && (eqb (count r l) 1 && true))) e in
      let y = and_parts (eqb (count p l) 1) (eqb (count q l) 1 && (eqb (count r l) 1 && true)) x.1 in
      let z = and_parts (eqb (count q l) 1) (eqb (count r l) 1 && true) y.1 in
      let w = and_parts (eqb (count r l) 1) true z.1 in
      let n = eqb-true (length l) 3 x.0 in
      let a = eqb-true (count p l) 1 y.0 in
      let b = eqb-true (count q l) 1 z.0 in
      let c = eqb-true (count r l) 1 w.0 in
      let u = count-or q r d l in
      let v = count-or p (λ (t : Transform). q t || r t) d' l in
      record { first = a; second = b; each = count-full (λ (t : Transform). p t || (q t || r t)) l (omega arith) }

  -- ---- so one transform alone needs octets of each type
  pub record Needs : Type 0 where
    pub encryption : OneGives encryption_fits encryption_needs l
    pub key-wrap : OneGives key_wrap_fits key_wrap_needs l

  pub record NeedsFirst : Type 0 where
    pub encryption : OneGives encryption_fits encryption_needs l
    pub no-more : sum key_wrap_needs l ≡ 0

  esp-needs : exact_transforms (encryption_fits ∷ sequence_numbers_fit ∷ []) l ≡ true → NeedsFirst
  esp-needs e =
      let two = exactly-two encryption_fits sequence_numbers_fit
      (λ t p. false_of t sequence_numbers_fit 5 1 (sequence-kind t) (encryption-kind t p) (λ x. omega arith)) e in
      let other : (t : Transform) → Memᴰ t l → encryption_fits t ≡ false → t.kind ≡ 5 =
      λ t m f. sequence-kind t (or-of (encryption_fits t) (sequence_numbers_fit t) (two.each t m) f) in
      record {
        encryption = sum_one encryption_needs encryption_fits l
            (λ t m f. no-encryption t (λ x. let y = other t m f in omega arith)) two.first;
        no-more = sum-none key_wrap_needs l
            (λ t m.
            no-key-wrap t
            (λ x.
            bool_cases (encryption_fits t) (λ g. let y = encryption-kind t g in omega arith) (λ g. let y = other t m g in omega arith)));
      }

  rekey-needs-two : exact_transforms (encryption_fits ∷ key_wrap_fits ∷ []) l ≡ true → Needs
  rekey-needs-two e =
      let two = exactly-two encryption_fits key_wrap_fits
      (λ t p. false_of t key_wrap_fits 13 1 (key-wrap-kind t) (encryption-kind t p) (λ x. omega arith)) e in
      let other : (t : Transform) → Memᴰ t l → encryption_fits t ≡ false → key_wrap_fits t ≡ true =
      λ t m f. or-of (encryption_fits t) (key_wrap_fits t) (two.each t m) f in
      record {
        encryption = sum_one encryption_needs encryption_fits l
            (λ t m f. no-encryption t (λ x. let y = key-wrap-kind t (other t m f) in omega arith)) two.first;
        key-wrap = sum_one key_wrap_needs key_wrap_fits l
            (λ t m f.
            no-key-wrap t
            (λ x.
            bool_cases (encryption_fits t) (λ g. let y = encryption-kind t g in omega arith)
            (λ g. absurd (false≢true (sym f ∙ other t m g)))))
            two.second;
      }

  rekey-needs-three : exact_transforms (encryption_fits ∷ key_wrap_fits ∷ authentication_fits ∷ []) l ≡ true → Needs
  rekey-needs-three e =
      let apart : (t : Transform) → encryption_fits t ≡ true → (key_wrap_fits t || authentication_fits t) ≡ false =
      λ t p.
      let k = encryption-kind t p in
      rw (false_of t key_wrap_fits 13 1 (key-wrap-kind t) k (λ x. omega arith))
      (false_of t authentication_fits 14 1 (authentication-kind t) k (λ x. omega arith)) in
      let three = exactly-three encryption_fits key_wrap_fits authentication_fits
      (λ t p. false_of t authentication_fits 14 13 (authentication-kind t) (key-wrap-kind t p) (λ x. omega arith)) apart e in
      let other : (t : Transform) → Memᴰ t l → encryption_fits t ≡ false → (key_wrap_fits t || authentication_fits t) ≡ true =
      λ t m f. or-of (encryption_fits t) (key_wrap_fits t || authentication_fits t) (three.each t m) f in
      let last : (t : Transform) → Memᴰ t l → encryption_fits t ≡ false → key_wrap_fits t ≡ false → t.kind ≡ 14 =
      λ t m f g. authentication-kind t (or-of (key_wrap_fits t) (authentication_fits t) (other t m f) g) in
      record {
        encryption = sum_one encryption_needs encryption_fits l
            (λ t m f.
            no-encryption t
            (λ x.
            bool_cases (key_wrap_fits t) (λ g. let y = key-wrap-kind t g in omega arith) (λ g. let y = last t m f g in omega arith)))
            three.first;
        key-wrap = sum_one key_wrap_needs key_wrap_fits l
            (λ t m f.
            no-key-wrap t
            (λ x.
            bool_cases (encryption_fits t) (λ g. let y = encryption-kind t g in omega arith) (λ g. let y = last t m g f in omega arith)))
            three.second;
      }

  rekey-needs : (authentication : Bool) → exact_transforms (rekey_transforms authentication) l ≡ true → Needs
  rekey-needs true e = rekey-needs-three e
  rekey-needs false e = rekey-needs-two e

-- ---- what one needs is a number of the algorithm table
octets-are : (n : Option ℕ) → is_octets n ≡ true → n ≡ Some (octets_needed n)
octets-are (Some n) e = refl
octets-are None e = absurd (false≢true e)

lengths-size : (id : ℕ) (l : List ℕ) → ltb 1 (length l) ≡ false → any (λ (b : ℕ). is_octets (needed_by 1 id b)) l ≡ true →
    is_encryption_size (sum (λ (b : ℕ). octets_needed (needed_by 1 id b)) l) ≡ true
unfolding sum any
lengths-size id [] s e = absurd (false≢true e)
lengths-size id (b ∷ []) s e =
    bool_cases (is_octets (needed_by 1 id b))
    (λ g.
    let z : octets_needed (needed_by 1 id b) ≡ octets_needed (needed_by 1 id b) + 0 = omega arith in
    ap is_encryption_size (sym z) ∙ needed-size 1 id b (octets_needed (needed_by 1 id b)) (octets-are (needed_by 1 id b) g))
    (λ g. absurd (false≢true (rw g at e)))
lengths-size id (b ∷ c ∷ l) s e = let h = ltb-false 1 (suc (suc (length l))) s in absurd (omega arith)

module _ (t : Transform) where
  encryption-size : twice_in_transform t ≡ false → encryption_fits t ≡ true → is_encryption_size (encryption_needs t) ≡ true
  unfolding encryption_fits
  encryption-size s e =
      let p = and_parts (eqb t.kind 1) (any (λ (b : ℕ). is_octets (needed_by 1 t.id b)) t.key_lengths) e in
      rw p.0 (lengths-size t.id t.key_lengths s p.1)

  key-wrap-size : key_wrap_fits t ≡ true → is_wrapping_size (key_wrap_needs t) ≡ true
  unfolding key_wrap_fits
  key-wrap-size e =
      let p = and_parts (eqb t.kind 13) (is_octets (needed_by 13 t.id 0)) e in
      rw p.0 (needed-size 13 t.id 0 (octets_needed (needed_by 13 t.id 0)) (octets-are (needed_by 13 t.id 0) p.1))

-- ---- a policy whose transforms are fit
module _ (authentication : Bool) (a : GroupSaPolicy) (fit : transforms_fit authentication a ≡ true)
    (once : any twice_in_transform a.transforms ≡ false) where
  size_of : (p : OneGives encryption_fits encryption_needs a.transforms) → is_encryption_size (encryption_octets a) ≡ true
  unfolding encryption_octets
  size_of p =
      ap is_encryption_size p.is ∙ encryption-size p.one (none_passes twice_in_transform a.transforms once p.one p.stands)
      p.passes

  pub esp-sizes : is_esp a ≡ true → (is_encryption_size (encryption_octets a) ≡ true) × (key_wrap_octets a ≡ 0)
  unfolding transforms_fit key_wrap_octets
  esp-sizes e = let n = esp-needs a.transforms (rw e at fit) in (size_of n.encryption, n.no-more)

  pub rekey-sizes : is_esp a ≡ false → (is_rekey a ≡ true) × (rekey_sizes (encryption_octets a) (key_wrap_octets a) ≡ true)
  unfolding transforms_fit key_wrap_octets rekey_sizes
  rekey-sizes e =
      let p = and_parts (is_rekey a) (exact_transforms (rekey_transforms authentication) a.transforms) (rw e at fit) in
      let n = rekey-needs a.transforms authentication p.1 in
      let k = n.key-wrap in (
        p.0,
        and-whole (is_encryption_size (encryption_octets a)) (is_wrapping_size (key_wrap_octets a)) (size_of n.encryption)
            (ap is_wrapping_size k.is ∙ key-wrap-size k.one k.passes),
      )
