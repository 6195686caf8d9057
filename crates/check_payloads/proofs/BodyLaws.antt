-- What stands where the first payload of a type is found: its body, and, of Delete payloads, the others after it.
use Prim.Native.Nat.{ℕ, zero, suc, ◌+◌, ◌-◌, ◌≤◌}
use mathlib.Core.Path.{◌≡◌, refl, ap, sym, ◌∙◌, subst}
use mathlib.Core.List.{List, []}
use mathlib.Core.Bool.{Bool, true, false, cond}
use native.Mathlib.Omega.{arith}
use borrow.Author.Tests.{eqb-true, eqb-false, ne_eqb}
use lib.ListN.{length, drop}
use lib.Dec.{eqb}
use Rattle.octets.specs.Walk.{part}
use Rattle.lists.specs.Lists.{keep}
use Rattle.lists.proofs.Cases.{bool_cases}
use Rattle.wire_frames.specs.Delete.{Delete}
use Rattle.wire_frames.specs.Frame.{Payload, payloads, nothing_left}
use Rattle.wire_readers.specs.inner.Values.{nowhere, is_whole}
use Rattle.wire_readers.specs.inner.Payloads.{payloads_in}
use Rattle.wire_readers.specs.declared.Stretch.{Stretch}
use Rattle.wire_readers.specs.declared.payload.PayloadParts.{PayloadParts}
use Rattle.check_payloads.specs.inner.Places.{body_from}
use Rattle.check_payloads.specs.inner.Facts.{of_kind}
use Rattle.check_payloads.specs.inner.Deletion.{deletes_among, DeletesFrom}
use Rattle.check_payloads.proofs.StepLaws.{Step, none_left, a-step}
use Rattle.check_payloads.proofs.KindLaws.{FirstBody, no_body, keep-next, first_body}
use Rattle.check_payloads.proofs.DeletedLaws.{delete-later, delete-none}

-- ---- the place, one payload after the other
pub nothing-from : (n w k at : ℕ) (s : List ℕ) → k ≡ 0 → body_from n w k at s ≡ nowhere
unfolding body_from
nothing-from zero w k at s e = refl
nothing-from (suc n) w k at s e = rw e refl

module _ (fresh : Bool) (n w k : ℕ) (s : List ℕ) (at : ℕ) (r : PayloadParts) (g : Step fresh k s at r) (z : k ≡ 0 → ⊥) where
  abbrev pub place : Stretch
  place = record { start = at + 4; end = at + r.end }

  pub body-next : body_from (suc n) w k at s ≡ cond (eqb k w) (record { start = at + 4; end = at + r.end })
      (body_from n w r.next (at + r.end) s)
  unfolding body_from
  body-next = λ i.
      cond (ne_eqb k 0 z i) nowhere
      (cond (eqb k w) (record { start = at + 4; end = at + sym g.end_is i })
      (body_from n w (sym g.next-is i) (at + sym g.end_is i) s))

  pub body-here : eqb k w ≡ true → body_from (suc n) w k at s ≡ record { start = at + 4; end = at + r.end }
  body-here e = body-next ∙ (λ i. cond (e i) place (body_from n w r.next (at + r.end) s))

  pub body-later : eqb k w ≡ false → body_from (suc n) w k at s ≡ body_from n w r.next (at + r.end) s
  body-later e = body-next ∙ (λ i. cond (e i) place (body_from n w r.next (at + r.end) s))

-- ---- the body that stands there
pub record FirstOf (fresh : Bool) (w : ℕ) (s : List ℕ) (l : List Payload) (x : Stretch) : Type 0 where
  pub order : x.start ≤ x.end
  pub inside : x.end ≤ length s
  pub body : FirstBody fresh w (part s x.start x.end) (keep (of_kind w) l)

module _ (fresh : Bool) (w : ℕ) (s : List ℕ) where
  none_first : (l : List Payload) (x : Stretch) → l ≡ [] → x ≡ nowhere → FirstOf fresh w s l x
  unfolding keep
  none_first l x e q =
      subst (FirstOf fresh w s l) (sym q)
      (record {
        order = omega arith;
        inside = omega arith;
        body = subst (FirstBody fresh w []) (ap (keep (of_kind w)) (sym e)) (no_body refl);
      })

  this-first : (k at : ℕ) (r : PayloadParts) (x : Stretch) → Step fresh k s at r → k ≡ w → x ≡ record { start = at + 4; end = at + r.end }
      → FirstOf fresh w s (payloads_in fresh k (drop at s)) x
  this-first k at r x g e q =
      subst (FirstOf fresh w s (payloads_in fresh k (drop at s))) (sym q)
      (record { order = omega (arith, g.some); inside = g.inside; body = first_body fresh w k s at r g e _ refl })

  later_first : (k at : ℕ) (r : PayloadParts) (x y : Stretch) → Step fresh k s at r → (k ≡ w → ⊥) → x ≡ y
      → FirstOf fresh w s (payloads_in fresh r.next (drop (at + r.end) s)) y → FirstOf fresh w s (payloads_in fresh k (drop at s)) x
  later_first k at r x y g e q f =
      subst (FirstOf fresh w s (payloads_in fresh k (drop at s))) (sym q)
      (record {
        order = f.order;
        inside = f.inside;
        body = subst (FirstBody fresh w (part s y.start y.end)) (sym (keep-next fresh w k s at r g e)) f.body;
      })

  pub first-from : (n k at : ℕ) → at ≤ length s → length s ≤ at + n → is_whole (nothing_left (payloads fresh k 0 (drop at s))) ≡ true
      → FirstOf fresh w s (payloads_in fresh k (drop at s)) (body_from n w k at s)
  first-from zero k at h m e =
      bool_cases (eqb k 0)
      (λ t. let z = eqb-true k 0 t in none_first _ _ (none_left fresh (drop at s) k z) (nothing-from 0 w k at s z))
      (λ t. let g = a-step fresh k s at h (eqb-false k 0 t) e in absurd (omega (arith, g.1.some, g.1.inside)))
  first-from (suc n) k at h m e =
      bool_cases (eqb k 0)
      (λ t. let z = eqb-true k 0 t in none_first _ _ (none_left fresh (drop at s) k z) (nothing-from (suc n) w k at s z))
      (λ t.
      let z = eqb-false k 0 t in
      let g = a-step fresh k s at h z e in
      bool_cases (eqb k w) (λ u. this-first k at g.0 _ g.1 (eqb-true k w u) (body-here fresh n w k s at g.0 g.1 z u))
      (λ u.
      later_first k at g.0 _ _ g.1 (eqb-false k w u) (body-later fresh n w k s at g.0 g.1 z u)
      (first-from n g.0.next (at + g.0.end) g.1.inside (omega (arith, g.1.some)) g.1.rest)))

-- ---- Delete payloads from the first one on
module _ (s : List ℕ) where
  -- with the four octets before its body
  abbrev pub FirstDelete : List Delete → Stretch → Type 0
  FirstDelete l x = (4 ≤ x.start) × DeletesFrom s l (x.start - 4)

  this-delete : (k at : ℕ) (r : PayloadParts) (x : Stretch) → Step false k s at r → at ≤ length s
      → is_whole (nothing_left (payloads false k 0 (drop at s))) ≡ true → k ≡ 42 → x ≡ record { start = at + 4; end = at + r.end }
      → FirstDelete (deletes_among (payloads_in false k (drop at s))) x
  this-delete k at r x g h e d q =
      let a : x.start ≡ at + 4 = ap (λ (y : Stretch). y.start) q in
      let b : at ≡ x.start - 4 = omega arith in (
        omega arith,
        subst (DeletesFrom s (deletes_among (payloads_in false k (drop at s)))) b
            (record {
              inside = h;
              rest = subst (λ (n : ℕ). is_whole (nothing_left (payloads false n 0 (drop at s))) ≡ true) d e;
              all = ap (λ (n : ℕ). deletes_among (payloads_in false n (drop at s))) (sym d);
            }),
      )

  pub deletes-from : (n k at : ℕ) → at ≤ length s → length s ≤ at + n → is_whole (nothing_left (payloads false k 0 (drop at s))) ≡ true
      → (length (deletes_among (payloads_in false k (drop at s))) ≡ 0 → ⊥) → FirstDelete (deletes_among (payloads_in false k (drop at s)))
      (body_from n 42 k at s)
  deletes-from zero k at h m e some =
      bool_cases (eqb k 0) (λ t. absurd (some (ap length (delete-none (drop at s) k (eqb-true k 0 t)))))
      (λ t. let g = a-step false k s at h (eqb-false k 0 t) e in absurd (omega (arith, g.1.some, g.1.inside)))
  deletes-from (suc n) k at h m e some =
      bool_cases (eqb k 0) (λ t. absurd (some (ap length (delete-none (drop at s) k (eqb-true k 0 t)))))
      (λ t.
      let z = eqb-false k 0 t in
      let g = a-step false k s at h z e in
      bool_cases (eqb k 42) (λ u. this-delete k at g.0 _ g.1 h e (eqb-true k 42 u) (body-here false n 42 k s at g.0 g.1 z u))
      (λ u.
      let l = delete-later k s at g.0 g.1 (eqb-false k 42 u) in
      let f = deletes-from n g.0.next (at + g.0.end) g.1.inside (omega (arith, g.1.some)) g.1.rest
      (λ y. some (ap length l ∙ y)) in
      subst (FirstDelete (deletes_among (payloads_in false k (drop at s)))) (sym (body-later false n 42 k s at g.0 g.1 z u))
      (f.0, subst (λ (y : List Delete). DeletesFrom s y ((body_from n 42 g.0.next (at + g.0.end) s).start - 4)) (sym l) f.1)))
