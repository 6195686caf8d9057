-- One fragment more, in any order: what waits after the fragments with these numbers, from a collection of another rekey on.
use native.Mathlib.Omega.{arith}
use Prim.Native.Nat.{ℕ, ◌+◌, ◌≤◌}
use mathlib.Core.Path.{◌≡◌, refl, sym, ◌∙◌}
use mathlib.Core.Bool.{true, false, false≢true}
use mathlib.Core.Logic.{◌⊎◌, inl, inr, ⊎_elim}
use mathlib.Core.List.{List, [], ◌∷◌, flat_map}
use lib.Dec.{eqb}
use lib.ListN.{length}
use borrow.Author.Tests.{eqb-true}
use Rattle.ikev2_numbers.specs.Codes.{header_octets, most_octets}
use Rattle.octets.specs.Compare.{same}
use Rattle.octets.proofs.Order.{same-eq}
use Rattle.lists.specs.Lists.{any}
use Rattle.lists.proofs.Cases.{bool_cases, and_parts}
use Rattle.fragments.specs.declared.Case.TheVariants.{Anew, PassedOver, Kept}
use Rattle.fragments.specs.declared.Names.{Names}
use Rattle.fragments.specs.Collection.{Lead, Waiting, nothing, frame_size}
use Rattle.fragments.specs.Gathering.{of_same_rekey, case_of, put_to, gathered, is_complete}
use Rattle.fragments.specs.inner.FitWaiting.{FitWaiting, FitNames}
use Rattle.fragments.proofs.FitGathered.{Joins, nothing-anew, nothing-joins, kept-joins, kept_case, with-fit}
use Rattle.fragments.proofs.AnyOrderPieces.{came}
use Rattle.fragments.proofs.AnyOrderLaws.{waiting_for, piece_at, OneOf, case-is, gathered-one, gathered-first, waiting-again}
use Rattle.fragments.proofs.AnyOrderLaws.{waiting-octets}

-- another rekey, or nothing at all, starts anew
pub other-anew : (w : Waiting) (f : Names) → FitNames f → (w ≡ nothing) ⊎ ((w.spis ≡ f.spis) × (w.id ≡ f.id) → ⊥) → case_of w f ≡ Anew
unfolding case_of
other-anew w f n (inl e) = rw e (nothing-anew f n)
other-anew w f n (inr h) =
    bool_cases (of_same_rekey w f)
    (λ e.
    let p = and_parts (same w.spis f.spis) (eqb w.id f.id) e in
    absurd (h (same-eq w.spis f.spis p.0, eqb-true w.id f.id p.1)))
    (λ e. rw e)

module _ (spis : List ℕ) (id : ℕ) (lead : Lead) (pieces : List (List ℕ)) where
  -- what waits is what the fragments with these numbers left; before the first each of them starts anew
  abbrev pub Stands : Waiting → List ℕ → Type 0
  Stands w c =
      ((c ≡ []) × ((f : Names) → OneOf spis id lead pieces f → FitNames f → case_of w f ≡ Anew))
      ⊎ ((w ≡ waiting_for spis id lead pieces c) × FitWaiting (waiting_for spis id lead pieces c))

  module _ (w : Waiting) (f : Names) (o : OneOf spis id lead pieces f) (n : FitNames f) where
    -- a copy is passed over, and leaves what waits
    pub step-copy : (c : List ℕ) → Stands w c → came c f.number ≡ true →
        (case_of w f ≡ PassedOver) × Stands w (f.number ∷ c)
    unfolding any
    step-copy c (inl p) e = absurd (false≢true (rw p.0 at e))
    step-copy c (inr p) e =
        let a : case_of w f ≡ PassedOver = rw (p.0, case-is spis id lead pieces f o c, e) refl in
        let k = waiting-again spis id lead pieces c f.number e in
        (a, inr (p.0 ∙ sym k, rw k p.1))

    -- another is put to what waits
    new-case : (c : List ℕ) → Stands w c → came c f.number ≡ false → (case_of w f ≡ Anew) ⊎ (case_of w f ≡ Kept)
    new-case c (inl p) e = inl (p.1 f o n)
    new-case c (inr p) e = inr (rw (p.0, case-is spis id lead pieces f o c, e) refl)

    pub step-new : (c : List ℕ) → Stands w c → came c f.number ≡ false → case_of w f ≡ PassedOver → ⊥
    step-new c p e g =
        ⊎_elim (λ h. let z : ◌≡◌ {A = ℕ} 0 1 = cc in omega arith) (λ h. let z : ◌≡◌ {A = ℕ} 0 1 = cc in omega arith) (new-case c p e)

    pub step-gathered : (c : List ℕ) → Stands w c → came c f.number ≡ false →
        gathered w f (piece_at spis id lead pieces f.number) ≡ waiting_for spis id lead pieces (f.number ∷ c)
    step-gathered c (inl p) e = rw p.0 (gathered-first spis id lead pieces f o w (p.1 f o n))
    step-gathered c (inr p) e = rw p.0 (gathered-one spis id lead pieces f o c e)

    new-joins : (c : List ℕ) → Stands w c → came c f.number ≡ false → Joins (put_to (case_of w f) w) f
    new-joins c (inl p) e = rw (p.1 f o n) (nothing-joins f n)
    new-joins c (inr p) e =
        let k : case_of w f ≡ Kept = rw (p.0, case-is spis id lead pieces f o c, e) refl in
        rw k (kept-joins w f (rw p.0 p.1) (kept_case w f k))

    -- and stands there, where it does not complete it
    pub step-stands : header_octets + length (flat_map (λ (p : List ℕ). p) pieces) ≤ most_octets → (c : List ℕ) → Stands w c →
        came c f.number ≡ false → is_complete (waiting_for spis id lead pieces (f.number ∷ c)) ≡ false →
        FitWaiting (waiting_for spis id lead pieces (f.number ∷ c))
    step-stands most c p e i =
        let g = step-gathered c p e in
        let s = waiting-octets spis id lead pieces (f.number ∷ c) in
        let b : frame_size (gathered w f (piece_at spis id lead pieces f.number)).kept ≤ most_octets = rw g (omega arith) in
        let j : is_complete (gathered w f (piece_at spis id lead pieces f.number)) ≡ false = rw g i in
        rw g at (with-fit (put_to (case_of w f) w) f (piece_at spis id lead pieces f.number) n (new-joins c p e) b j)
