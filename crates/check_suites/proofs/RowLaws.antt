-- What the algorithm table's rows need, and the Key Lengths of some attributes one after the other.
use Prim.Native.Nat.{ℕ, ◌+◌, ◌-◌, ◌≤◌}
use mathlib.Core.Path.{◌≡◌, refl, ap, sym, ◌∙◌, subst}
use mathlib.Core.List.{List, [], ◌∷◌, map}
use mathlib.Core.Bool.{Bool, true, cond}
use native.Mathlib.Omega.{arith}
use borrow.Author.Tests.{leb-true, eqb-true}
use lib.Dec.{leb, ltb}
use lib.ListN.{length, drop}
use Rattle.octets.specs.Walk.{be16, part}
use Rattle.octets.proofs.Walks.{part_length}
use Rattle.wire_attributes.specs.Tree.{number16}
use Rattle.wire_attributes.specs.declared.tables.Place.{Place}
use Rattle.wire_attributes.specs.declared.tables.Meaning.TheVariants.{KeyLength}
use Rattle.lists.specs.Lists.{all}
use Rattle.state_keys.specs.Algorithms.{algorithms, is_row_of, needed_in, needed_by}
use Rattle.state_keys.specs.declared.algorithms.AlgorithmRow.{AlgorithmRow}
use Rattle.std.specs.Prelude.{Option, Some, None}
use Rattle.lists.proofs.Cases.{bool_cases, and_parts}
use Rattle.wire_readers.specs.inner.Values.{values_in, ValueFoundAt}
use Rattle.rules_refusals.specs.Fitness.{octets_needed, is_octets, sum}
use Rattle.check_suites.specs.inner.Octets.{key_length_needs}

module _ (k i b : ℕ) where
  -- what holds of each row's answer and of none holds of the answer
  of-rows : (P : Option ℕ → Type 0) (t : AlgorithmRow → Bool) → P None → ((r : AlgorithmRow) → t r ≡ true → P (Some r.octets)) →
      (l : List AlgorithmRow)
      → all t l ≡ true → P (needed_in k i b l)
  unfolding needed_in all
  of-rows P t none some [] h = none
  of-rows P t none some (r ∷ l) h =
      let f = and_parts (t r) (all t l) h in
      let Q : Bool → Type 0 = λ u. P (cond u (Some r.octets) (needed_in k i b l)) in
      bool_cases (is_row_of k i b r) (λ e. subst Q (sym e) (some r f.0)) (λ e. subst Q (sym e) (of-rows P t none some l f.1))

  pub at_most : octets_needed (needed_by k i b) ≤ 36
  unfolding needed_by all
  at_most =
      of-rows (λ (x : Option ℕ). octets_needed x ≤ 36) (λ (r : AlgorithmRow). leb r.octets 36) (omega arith)
      (λ r e. leb-true r.octets 36 e) algorithms refl

  -- a row needs some octets
  pub some-octets : is_octets (needed_by k i b) ≡ ltb 0 (octets_needed (needed_by k i b))
  unfolding needed_by all
  some-octets =
      of-rows (λ (x : Option ℕ). is_octets x ≡ ltb 0 (octets_needed x)) (λ (r : AlgorithmRow). ltb 0 r.octets) refl
      (λ r e. sym e) algorithms refl

-- ONE KEY LENGTH AND THE OTHERS
module _ (id : ℕ) (p : Place) (s : List ℕ) (from v e : ℕ) (x : ValueFoundAt KeyLength p s from v e) where
  pub two-octets : 0 + 2 ≤ length (part s v e)
  two-octets = omega (arith, eqb-true (e - v) 2 x.size, part_length s v e x.order x.inside)

  pub one_more : (b : ℕ) → b ≡ be16 (part s v e) 0
      → key_length_needs id p (drop from s) ≡ octets_needed (needed_by 1 id b) + key_length_needs id p (drop e s)
  unfolding sum
  one_more b q =
      ap (λ (l : List (List ℕ)). sum (λ (n : ℕ). octets_needed (needed_by 1 id n)) (map number16 l)) x.first
      ∙ ap (λ (n : ℕ). octets_needed (needed_by 1 id n) + key_length_needs id p (drop e s)) (sym q)

pub no-more : (id : ℕ) (p : Place) (s : List ℕ) → values_in KeyLength p s ≡ [] → key_length_needs id p s ≡ 0
unfolding sum
no-more id p s e = ap (λ (m : List (List ℕ)). sum (λ (n : ℕ). octets_needed (needed_by 1 id n)) (map number16 m)) e
