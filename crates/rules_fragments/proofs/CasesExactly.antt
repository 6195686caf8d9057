-- THE TABLE OF A FRAGMENT'S CASES, EXACTLY: what starts anew, what is passed over and what is kept, each in the customer's words.
use native.Mathlib.Omega.{arith}
use Prim.Native.Nat.{ℕ, ◌<◌}
use mathlib.Core.Path.{◌≡◌, refl, sym, ap, ap₂, ◌∙◌}
use mathlib.Core.Bool.{Bool, true, false, cond, not, false≢true, ◌&&◌}
use mathlib.Core.Logic.{inl, inr, ⊎_elim, ◌↔◌}
use borrow.Author.Tests.{lt-ltb, le-ltb, eqb-true, eq-eqb}
use lib.Dec.{ltb, eqb}
use Rattle.octets.specs.Compare.{same}
use Rattle.octets.proofs.Order.{same-eq, eq-same}
use Rattle.lists.proofs.Cases.{and_parts, bool_cases, lt-cases}
use Rattle.fragments.specs.declared.Case.{Case}
use Rattle.fragments.specs.declared.Case.TheVariants.{Anew, PassedOver, Kept}
use Rattle.fragments.specs.declared.Names.{Names}
use Rattle.fragments.specs.Collection.{Waiting}
use Rattle.fragments.specs.Gathering.{of_same_rekey, is_kept, case_of}
use Rattle.rules_fragments.specs.CaseSays.{OfOneRekey, StartsAnew, IsPassedOver, IsKeptBeside}

-- two cases are not one
abbrev case_number : Case → ℕ
case_number Anew = 0
case_number PassedOver = 1
case_number Kept = 2

anew-passed : {P : Type 0} → ◌≡◌ {A = Case} Anew PassedOver → P
anew-passed e = let z = ap case_number e in absurd (omega (arith, z))

anew-kept : {P : Type 0} → ◌≡◌ {A = Case} Anew Kept → P
anew-kept e = let z = ap case_number e in absurd (omega (arith, z))

passed-kept : {P : Type 0} → ◌≡◌ {A = Case} PassedOver Kept → P
passed-kept e = let z = ap case_number e in absurd (omega (arith, z))

module _ (w : Waiting) (f : Names) where
  one-rekey : of_same_rekey w f ≡ true → OfOneRekey w f
  one-rekey e =
      let p = and_parts (same w.spis f.spis) (eqb w.id f.id) e in
      record { spis = same-eq w.spis f.spis p.0; id = eqb-true w.id f.id p.1 }

  rekey-one : OfOneRekey w f → of_same_rekey w f ≡ true
  rekey-one r = ap₂ ◌&&◌ (eq-same w.spis f.spis r.spis) (eq-eqb w.id f.id r.id)

  not-one : of_same_rekey w f ≡ false → OfOneRekey w f → ⊥
  not-one e r = false≢true (sym e ∙ rekey-one r)

  -- the case by the four tests
  by_tests : (same-rekey larger smaller kept : Bool) → of_same_rekey w f ≡ same-rekey → ltb w.total f.total ≡ larger →
      ltb f.total w.total ≡ smaller → is_kept f.number w.kept ≡ kept →
      case_of w f ≡ cond (not same-rekey) Anew (cond larger Anew (cond smaller PassedOver (cond kept PassedOver Kept)))
  unfolding case_of
  by_tests a b c d e g h k = rw (e, g, h, k)

  -- what the three cases are, where they hold
  is-anew : StartsAnew w f → case_of w f ≡ Anew
  unfolding case_of
  is-anew (inl n) = bool_cases (of_same_rekey w f) (λ e. absurd (n (one-rekey e))) (λ e. rw e)
  is-anew (inr l) = bool_cases (of_same_rekey w f) (λ e. rw (e, lt-ltb w.total f.total l)) (λ e. rw e)

  is-passed : IsPassedOver w f → case_of w f ≡ PassedOver
  is-passed p = ⊎_elim smaller copy p.smaller-or-copy
    where
      smaller : f.total < w.total → case_of w f ≡ PassedOver
      smaller l =
          by_tests true false true (is_kept f.number w.kept) (rekey-one p.of_one) (le-ltb w.total f.total (omega (arith, l)))
          (lt-ltb f.total w.total l) refl

      copy : (f.total ≡ w.total) × (is_kept f.number w.kept ≡ true) → case_of w f ≡ PassedOver
      copy q =
          let e = q.0 in
          by_tests true false false true (rekey-one p.of_one) (le-ltb w.total f.total (omega (arith, e)))
          (le-ltb f.total w.total (omega (arith, e))) q.1

  is-kept : IsKeptBeside w f → case_of w f ≡ Kept
  is-kept p =
      let e = p.same_total in
      by_tests true false false false (rekey-one p.of_one) (le-ltb w.total f.total (omega (arith, e)))
      (le-ltb f.total w.total (omega (arith, e))) p.not_there

  -- one of the three holds
  one_of_three : {P : Type 0} → (StartsAnew w f → P) → (IsPassedOver w f → P) → (IsKeptBeside w f → P) → P
  one_of_three anew passed kept =
      bool_cases (of_same_rekey w f)
      (λ e.
      lt-cases w.total f.total (λ l. anew (inr l)) (λ l.
      lt-cases f.total w.total (λ g. passed (record { of_one = one-rekey e; smaller-or-copy = inl g })) (λ g.
      let t : f.total ≡ w.total = omega (arith, l, g) in
      bool_cases (is_kept f.number w.kept) (λ k. passed (record { of_one = one-rekey e; smaller-or-copy = inr (t, k) }))
      (λ k. kept (record { of_one = one-rekey e; same_total = t; not_there = k })))))
      (λ e. anew (inl (not-one e)))

  -- EXACTLY
  pub anew-exactly : case_of w f ≡ Anew ↔ StartsAnew w f
  anew-exactly = (
    λ e. one_of_three (λ x. x) (λ x. anew-passed (sym e ∙ is-passed x)) (λ x. anew-kept (sym e ∙ is-kept x)),
    is-anew,
  )

  pub passed-exactly : case_of w f ≡ PassedOver ↔ IsPassedOver w f
  passed-exactly = (
    λ e. one_of_three (λ x. anew-passed (sym (is-anew x) ∙ e)) (λ x. x) (λ x. passed-kept (sym e ∙ is-kept x)),
    is-passed,
  )

  pub kept-exactly : case_of w f ≡ Kept ↔ IsKeptBeside w f
  kept-exactly = (
    λ e. one_of_three (λ x. anew-kept (sym (is-anew x) ∙ e)) (λ x. passed-kept (sym (is-passed x) ∙ e)) (λ x. x),
    is-kept,
  )
