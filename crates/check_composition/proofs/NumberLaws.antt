-- The greatest of some numbers, and the walk over attributes that give numbers.
use Prim.Native.Nat.{ℕ, ◌+◌, ◌-◌, ◌<◌, ◌≤◌}
use mathlib.Core.Path.{◌≡◌, refl, ap, sym, ◌∙◌, subst}
use mathlib.Core.List.{List, [], ◌∷◌, ◌++◌, map}
use mathlib.Core.Bool.{Bool, true, false, cond, false≢true, ◌||◌}
use native.Mathlib.Omega.{arith}
use borrow.Author.Tests.{ltb-true, ltb-false, lt-ltb, le-ltb, eqb-true}
use lib.ListN.{length, drop, length-take, length-drop}
use lib.Dec.{ltb, eqb}
use Rattle.octets.specs.Walk.{part}
use Rattle.lists.specs.Lists.{any}
use Rattle.lists.proofs.Cases.{bool_cases, lt-cases}
use Rattle.wire_attributes.specs.Layout.{attributes}
use Rattle.wire_attributes.specs.declared.tables.Place.{Place}
use Rattle.wire_attributes.specs.declared.tables.Meaning.{Meaning}
use Rattle.wire_readers.specs.inner.Values.{is_whole, values_in, value_size, ValueFoundAt}
use Rattle.check_composition.specs.inner.Numbers.{greater, greatest, is_number, number_by, most, numbers_by, with_number}
use Rattle.check_composition.specs.declared.numbers.Numbers.{Numbers}

-- ---- the greater of two
pub greater-is : (a b : ℕ) → a < b → greater a b ≡ b
greater-is a b h = bool_cases (ltb a b) (λ e. rw e refl) (λ e. let z = ltb-false a b e in absurd (omega arith))

pub greater-not : (a b : ℕ) → b ≤ a → greater a b ≡ a
greater-not a b h = bool_cases (ltb a b) (λ e. let z = ltb-true a b e in absurd (omega arith)) (λ e. rw e refl)

pub greater-none : (n : ℕ) → greater n 0 ≡ n
greater-none n = greater-not n 0 (omega arith)

pub none-greater : (n : ℕ) → greater 0 n ≡ n
none-greater n = lt-cases 0 n (λ h. greater-is 0 n h) (λ h. greater-not 0 n h ∙ (let z : 0 ≡ n = omega arith in z))

pub greater-most : (a b k : ℕ) → a ≤ k → b ≤ k → greater a b ≤ k
greater-most a b k h g =
    lt-cases a b (λ l. subst (λ (x : ℕ). x ≤ k) (sym (greater-is a b l)) g)
    (λ l. subst (λ (x : ℕ). x ≤ k) (sym (greater-not a b l)) h)

pub greater-joined : (a b c : ℕ) → greater a (greater b c) ≡ greater (greater a b) c
greater-joined a b c =
    lt-cases b c
    (λ h.
    ap (greater a) (greater-is b c h)
    ∙ lt-cases a b (λ g. greater-is a c (omega arith) ∙ sym (ap (λ (x : ℕ). greater x c) (greater-is a b g) ∙ greater-is b c h))
    (λ g. sym (ap (λ (x : ℕ). greater x c) (greater-not a b g))))
    (λ h.
    ap (greater a) (greater-not b c h)
    ∙ lt-cases a b (λ g. greater-is a b g ∙ sym (ap (λ (x : ℕ). greater x c) (greater-is a b g) ∙ greater-not b c h))
    (λ g.
    greater-not a b g ∙ sym (ap (λ (x : ℕ). greater x c) (greater-not a b g) ∙ greater-not a c (omega arith))))

pub greatest-join : (l m : List ℕ) → greatest (l ++ m) ≡ greater (greatest l) (greatest m)
unfolding greatest
greatest-join [] m = sym (none-greater (greatest m))
greatest-join (n ∷ l) m = ap (greater n) (greatest-join l m) ∙ greater-joined n (greatest l) (greatest m)

pub greatest-if : (b : Bool) (l : List ℕ) → cond b (greatest l) 0 ≡ greatest (cond b l [])
unfolding greatest
greatest-if true l = refl
greatest-if false l = refl

-- one of them is over a limit exactly when the greatest is
over-greater : (k a b : ℕ) → ltb k (greater a b) ≡ (ltb k a || ltb k b)
over-greater k a b =
    lt-cases a b
    (λ h.
    ap (ltb k) (greater-is a b h)
    ∙ bool_cases (ltb k a) (λ e. lt-ltb k b (omega (arith, ltb-true k a e)) ∙ sym (ap (λ (x : Bool). x || ltb k b) e))
    (λ e. sym (ap (λ (x : Bool). x || ltb k b) e)))
    (λ h.
    ap (ltb k) (greater-not a b h)
    ∙ bool_cases (ltb k a) (λ e. e ∙ sym (ap (λ (x : Bool). x || ltb k b) e))
    (λ e. e ∙ sym ((λ i. e i || ltb k b) ∙ le-ltb k b (omega (arith, ltb-false k a e)))))

pub over-greatest : (k : ℕ) (l : List ℕ) → ltb k (greatest l) ≡ any (λ (n : ℕ). ltb k n) l
unfolding greatest any
over-greatest k [] = le-ltb k 0 (omega arith)
over-greatest k (n ∷ l) = over-greater k n (greatest l) ∙ ap (λ (x : Bool). ltb k n || x) (over-greatest k l)

-- ---- the number that a value is, by the meaning
module _ (m : Meaning) (v : List ℕ) (s : value_size m (length v) ≡ true) where
  pub octets-of : (x : Meaning) (k : ℕ) → m ≡ x → ((n : ℕ) → value_size x n ≡ eqb n k) → k ≤ length v
  octets-of x k e h =
      let z = eqb-true (length v) k (sym (h (length v)) ∙ ap (λ (y : Meaning). value_size y (length v)) (sym e) ∙ s) in omega arith

  pub number_is : (x : Meaning) (r : ℕ) → m ≡ x → r ≡ number_by x v → r ≤ most x → (r ≡ number_by m v) × (r ≤ most m)
  number_is x r e q h = (q ∙ ap (λ (y : Meaning). number_by y v) (sym e), subst (λ (y : Meaning). r ≤ most y) (sym e) h)

  pub no_number : (x : Meaning) → is_number m ≡ true → m ≡ x → is_number x ≡ false → (0 ≡ number_by m v) × (0 ≤ most m)
  no_number x t e f = absurd (false≢true (sym f ∙ ap is_number (sym e) ∙ t))

-- ---- what was gone through, and the values left
module _ (m : Meaning) where
  abbrev plus : Numbers → List (List ℕ) → Numbers
  plus n l = record { count = n.count + length l; greatest = greater n.greatest (greatest (map (number_by m) l)) }

  abbrev pub no_numbers : Numbers
  no_numbers = record { count = 0; greatest = 0 }

  from-none : (l : List (List ℕ)) → plus no_numbers l ≡ numbers_by m l
  from-none l =
      let e : 0 + length l ≡ length l = omega arith in
      λ i. record { count = e i; greatest = none-greater (greatest (map (number_by m) l)) i }

  none_left : (n : Numbers) → plus n [] ≡ n
  unfolding greatest
  none_left n =
      let e : n.count + 0 ≡ n.count = omega arith in
      λ i. record { count = e i; greatest = greater-none n.greatest i }

  one_more : (n : Numbers) (v : List ℕ) (l : List (List ℕ)) → plus n (v ∷ l) ≡ plus (with_number m n v) l
  unfolding greatest
  one_more n v l =
      let e : n.count + length (v ∷ l) ≡ n.count + 1 + length l = omega arith in
      λ i. record { count = e i; greatest = greater-joined n.greatest (number_by m v) (greatest (map (number_by m) l)) i }

  -- ---- the walk: where it stands at a place
  module _ (p : Place) (s : List ℕ) where
    pub record NumberWalk (n : Numbers) (at : ℕ) : Type 0 where
      pub few : n.count ≤ at
      pub small : n.greatest ≤ most m
      pub inside : at ≤ length s
      pub rest : is_whole (attributes p 0 (drop at s)) ≡ true
      pub so_far : plus n (values_in m p (drop at s)) ≡ numbers_by m (values_in m p s)

    pub numbers-start : is_whole (attributes p 0 s) ≡ true → NumberWalk no_numbers 0
    numbers-start e = record {
      few = omega arith;
      small = omega arith;
      inside = omega arith;
      rest = e;
      so_far = from-none (values_in m p s);
    }

    module _ (n : Numbers) (at : ℕ) (w : NumberWalk n at) where
      pub numbers-end : values_in m p (drop at s) ≡ [] → (n ≡ numbers_by m (values_in m p s)) × (n.greatest ≤ most m)
      numbers-end e = (sym (none_left n) ∙ ap (plus n) (sym e) ∙ w.so_far, w.small)

      module _ (a e : ℕ) (o : ValueFoundAt m p s at a e) where
        pub number-sized : value_size m (length (part s a e)) ≡ true
        number-sized =
            let d = length-drop a s in
            let t = length-take (e - a) (drop a s) in
            let z : length (part s a e) ≡ e - a = omega (arith, o.order, o.inside) in
            ap (value_size m) z ∙ o.size

        pub numbers-less : length s - e < length s - at
        numbers-less = omega (arith, o.start, o.order, o.inside)

        pub numbers-room : n.count + 1 ≤ length s
        numbers-room = omega (arith, w.few, o.start, o.order, o.inside)

        pub numbers-next : (r : Numbers) → (r ≡ with_number m n (part s a e)) × (r.greatest ≤ most m) → NumberWalk r e
        numbers-next r (q, h) = record {
          few = omega (arith, ap (λ (x : Numbers). x.count) q, w.few, o.start, o.order);
          small = h;
          inside = o.inside;
          rest = o.rest;
          so_far =
              ap (λ (x : Numbers). plus x (values_in m p (drop e s))) q ∙ sym (one_more n (part s a e) (values_in m p (drop e s)))
              ∙ ap (plus n) (sym o.first) ∙ w.so_far;
        }
