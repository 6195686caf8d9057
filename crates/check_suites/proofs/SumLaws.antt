-- The counts and the octets of transforms, added up one transform after the other.
use Prim.Native.Nat.{ℕ, ◌+◌, ◌≤◌}
use native.Mathlib.Nat.{add-zero, add_assoc}
use mathlib.Core.Path.{◌≡◌, sym, ◌∙◌}
use mathlib.Core.List.{List, [], ◌∷◌}
use mathlib.Core.Bool.{Bool, true, false, cond}
use native.Mathlib.Omega.{arith}
use lib.ListN.{length}
use Rattle.lists.specs.Lists.{count}
use Rattle.wire_policies.specs.Transform.{Transform}
use Rattle.wire_policies.specs.Grammar.{Transforms}
use Rattle.rules_refusals.specs.Fitness.{encryption_fits, key_wrap_fits, sequence_numbers_fit, authentication_fits}
use Rattle.rules_refusals.specs.Fitness.{sum, encryption_needs, key_wrap_needs}
use Rattle.rules_refusals.specs.Number4.{twice_in_transform}
use Rattle.check_suites.specs.inner.Suites.{suite_of, needs_of}
use Rattle.check_suites.specs.inner.Adding.{plus, SuiteAtMost}
use Rattle.check_suites.specs.declared.counts.SuiteCounts.{SuiteCounts}
use Rattle.check_suites.specs.declared.counts.Needs.{Needs}
use Rattle.check_suites.proofs.FoldLaws.{Folded}

-- THE COUNTS
module _ (q : Transform → Bool) where
  count-first : (a : Transform) (l : List Transform) → count q (a ∷ l) ≡ count q (a ∷ []) + count q l
  unfolding count
  count-first a l = go (q a)
    where
      go : (t : Bool) → cond t (count q l + 1) (count q l) ≡ cond t (0 + 1) 0 + count q l
      go true = omega arith
      go false = omega arith

  count-one : (a : Transform) → count q (a ∷ []) ≤ 1
  unfolding count
  count-one a = go (q a)
    where
      go : (t : Bool) → cond t (0 + 1) 0 ≤ 1
      go true = omega arith
      go false = omega arith

  count_none : (n : ℕ) → n + count q [] ≡ n
  unfolding count
  count_none n = omega arith

  none-count : (l : List Transform) → count q l ≡ count q [] + count q l
  unfolding count
  none-count l = omega arith

pub suite-first : (a : Transform) (l : List Transform) → suite_of (a ∷ l) ≡ plus (suite_of (a ∷ [])) (suite_of l)
suite-first a l =
    let n : length (a ∷ l) ≡ 1 + length l = omega arith in
    λ j. record {
      count = n j;
      encryption = count-first encryption_fits a l j;
      wrapping = count-first key_wrap_fits a l j;
      sequence = count-first sequence_numbers_fit a l j;
      authentication = count-first authentication_fits a l j;
      doubled = count-first twice_in_transform a l j;
    }

pub plus_assoc : (x y z : SuiteCounts) → plus (plus x y) z ≡ plus x (plus y z)
plus_assoc x y z = λ j. record {
  count = add_assoc x.count y.count z.count j;
  encryption = add_assoc x.encryption y.encryption z.encryption j;
  wrapping = add_assoc x.wrapping y.wrapping z.wrapping j;
  sequence = add_assoc x.sequence y.sequence z.sequence j;
  authentication = add_assoc x.authentication y.authentication z.authentication j;
  doubled = add_assoc x.doubled y.doubled z.doubled j;
}

plus_none : (x : SuiteCounts) → plus x (suite_of []) ≡ x
plus_none x = λ j. record {
  count = add-zero x.count j;
  encryption = count_none encryption_fits x.encryption j;
  wrapping = count_none key_wrap_fits x.wrapping j;
  sequence = count_none sequence_numbers_fit x.sequence j;
  authentication = count_none authentication_fits x.authentication j;
  doubled = count_none twice_in_transform x.doubled j;
}

none-plus : (l : List Transform) → suite_of l ≡ plus (suite_of []) (suite_of l)
none-plus l =
    let n : length l ≡ 0 + length l = omega arith in
    λ j. record {
      count = n j;
      encryption = none-count encryption_fits l j;
      wrapping = none-count key_wrap_fits l j;
      sequence = none-count sequence_numbers_fit l j;
      authentication = none-count authentication_fits l j;
      doubled = none-count twice_in_transform l j;
    }

pub at-most-none : SuiteAtMost 0 (suite_of [])
unfolding count
at-most-none = record {
  count = omega arith;
  encryption = omega arith;
  wrapping = omega arith;
  sequence = omega arith;
  authentication = omega arith;
  doubled = omega arith;
}

pub at_most_one : (a : Transform) → SuiteAtMost 1 (suite_of (a ∷ []))
at_most_one a = record {
  count = omega arith;
  encryption = count-one encryption_fits a;
  wrapping = count-one key_wrap_fits a;
  sequence = count-one sequence_numbers_fit a;
  authentication = count-one authentication_fits a;
  doubled = count-one twice_in_transform a;
}

pub at-most-plus : (n m k : ℕ) (x y : SuiteCounts) → SuiteAtMost n x → SuiteAtMost m y → n + m ≤ k → SuiteAtMost k (plus x y)
at-most-plus n m k x y f g h = record {
  count = omega (arith, f.count, g.count);
  encryption = omega (arith, f.encryption, g.encryption);
  wrapping = omega (arith, f.wrapping, g.wrapping);
  sequence = omega (arith, f.sequence, g.sequence);
  authentication = omega (arith, f.authentication, g.authentication);
  doubled = omega (arith, f.doubled, g.doubled);
}

module _ (s : List ℕ) (l : List Transform) (tail : List ℕ) where
  pub suite-starts : Transforms s l tail → Folded suite_of plus s 0 (suite_of []) l tail
  suite-starts x = record { others = l; left = x; total = none-plus l }

pub suite-ends : (l : List Transform) (x : SuiteCounts) → suite_of l ≡ plus x (suite_of []) → x ≡ suite_of l
suite-ends l x e = sym (e ∙ plus_none x)

-- THE OCTETS
abbrev pub joined : Needs → Needs → Needs
joined x y = record { encryption = x.encryption + y.encryption; wrapping = x.wrapping + y.wrapping }

module _ (f : Transform → ℕ) where
  sum_first : (a : Transform) (l : List Transform) → sum f (a ∷ l) ≡ sum f (a ∷ []) + sum f l
  unfolding sum
  sum_first a l = omega arith

  sum-none : (n : ℕ) → n + sum f [] ≡ n
  unfolding sum
  sum-none n = omega arith

  none-sum : (l : List Transform) → sum f l ≡ 0 + sum f l
  none-sum l = omega arith

  sum_one : (a : Transform) (n : ℕ) → n ≡ f a → n ≡ sum f (a ∷ [])
  unfolding sum
  sum_one a n e = omega (arith, e)

pub needs-first : (a : Transform) (l : List Transform) → needs_of (a ∷ l) ≡ joined (needs_of (a ∷ [])) (needs_of l)
needs-first a l = λ j. record { encryption = sum_first encryption_needs a l j; wrapping = sum_first key_wrap_needs a l j }

pub joined-assoc : (x y z : Needs) → joined (joined x y) z ≡ joined x (joined y z)
joined-assoc x y z = λ j. record {
  encryption = add_assoc x.encryption y.encryption z.encryption j;
  wrapping = add_assoc x.wrapping y.wrapping z.wrapping j;
}

pub needs-one : (t : Transform) (e w : ℕ) → e ≡ encryption_needs t → w ≡ key_wrap_needs t
    → ◌≡◌ {A = Needs} (record { encryption = e; wrapping = w }) (needs_of (t ∷ []))
needs-one t e w p q = λ j. record { encryption = sum_one encryption_needs t e p j; wrapping = sum_one key_wrap_needs t w q j }

module _ (s : List ℕ) (l : List Transform) (tail : List ℕ) where
  pub needs-starts : Transforms s l tail → Folded needs_of joined s 0 (record { encryption = 0; wrapping = 0 }) l tail
  needs-starts x = record {
    others = l;
    left = x;
    total = λ j. record { encryption = none-sum encryption_needs l j; wrapping = none-sum key_wrap_needs l j };
  }

pub needs-end : (l : List Transform) (x : Needs) → needs_of l ≡ joined x (needs_of []) → x ≡ needs_of l
needs-end l x e =
    sym (e ∙ (λ j. record { encryption = sum-none encryption_needs x.encryption j; wrapping = sum-none key_wrap_needs x.wrapping j }))
