-- "A handed-in collection that breaks these rules or lacks nothing counts as empty": of a collection nothing is read but what it counts as.
use native.Mathlib.Omega.{arith}
use Prim.Native.Nat.{ℕ, ◌<◌}
use mathlib.Core.Path.{◌≡◌, ap, sym, ◌∙◌, subst}
use mathlib.Core.Bool.{true, false}
use mathlib.Core.Logic.{◌⊎◌, inl, inr}
use mathlib.Core.List.{List, []}
use Rattle.ikev2_numbers.specs.Codes.{most_octets}
use Rattle.state_keys.specs.Limits.{Limits}
use Rattle.wire_frames.specs.Frame.{figure}
use Rattle.state.specs.declared.State.{State}
use Rattle.gcm.specs.Opening.{put_at_start}
use Rattle.fragments.specs.declared.Case.{Case}
use Rattle.fragments.specs.declared.Case.TheVariants.{Anew, PassedOver}
use Rattle.fragments.specs.declared.Collection.{Collection}
use Rattle.fragments.specs.Collection.{Waiting, nothing, frame_size, collection_of, empty_collection, fit, counted}
use Rattle.fragments.specs.Gathering.{case_of, gathered, is_complete, whole}
use Rattle.fragments.proofs.FitGathered.{nothing-anew}
use Rattle.rules_outcome.specs.Outcome.{Outcome}
use Rattle.rules_fragments.specs.FragmentOutcome.{FragmentAnswer, passed_over, waiting, complete, names_in}
use Rattle.rules_fragments.specs.FragmentOutcome.{Turn, refuses, waits, passes_over, completes, FirstTurn, gathered_with}
use Rattle.rules_fragments.specs.FragmentOutcome.{OfPiece, judging_rows}
use Rattle.rules_fragments.specs.FragmentOutcome.{FragmentOutcome, is-refused, is-passed-over, is-waiting, is-complete}
use Rattle.rules_fragments.specs.FragmentSays.{kept_having}
use Rattle.rules_fragments.proofs.PastLaws.{past-total, passed-over-is}
use Rattle.rules_fragments.proofs.FragmentCarried.{fit-names, counted-empty}

-- a row for another with the same turn, and what is behind it
row-along : {A B C D : Type 0} {t u : Turn} → (A → C) → (C → A) → (B → D) → (A × (t ≡ u)) ⊎ ((A → ⊥) × B) →
    (C × (t ≡ u)) ⊎ ((C → ⊥) × D)
row-along f g h (inl p) = inl (f p.0, p.1)
row-along f g h (inr p) = inr (λ x. p.0 (g x), h p.1)

same_row : {A B D : Type 0} {t u : Turn} → (B → D) → (A × (t ≡ u)) ⊎ ((A → ⊥) × B) → (A × (t ≡ u)) ⊎ ((A → ⊥) × D)
same_row h p = row-along (λ x. x) (λ x. x) h p

module _ (limits : Limits) (s : State) (now : ℕ) (octets room : List ℕ) where
  -- a condition on the piece and what waits, of one collection and of another that counts as the same
  piece-along : (P : Waiting → List ℕ → Type 0) (c d : Collection) → counted c ≡ counted d →
      OfPiece limits s now c octets room (P (counted c)) → OfPiece limits s now d octets room (P (counted d))
  piece-along P c d e x =
      record { piece = x.piece; opens = x.opens; meets = subst (λ (w : Waiting). P w x.piece) e x.meets }

  abbrev over : Waiting → List ℕ → Type 0
  over w p = most_octets < frame_size (gathered w (names_in octets) p).kept

  abbrev lacks : Waiting → List ℕ → Type 0
  lacks w p = is_complete (gathered w (names_in octets) p) ≡ false

  abbrev full : Waiting → List ℕ → Type 0
  full w p = is_complete (gathered w (names_in octets) p) ≡ true

  module _ (c d : Collection) (e : counted c ≡ counted d) where
    same_turn : (t : Turn) → FirstTurn (judging_rows limits s now c octets room) t → FirstTurn (judging_rows limits s now d octets room) t
    same_turn t f =
        same_row (same_row (same_row (same_row (same_row
        (row-along (λ q. subst (λ (w : Waiting). case_of w (names_in octets) ≡ PassedOver) e q)
        (λ q. subst (λ (w : Waiting). case_of w (names_in octets) ≡ PassedOver) (sym e) q)
        (row-along (piece-along over c d e) (piece-along over d c (sym e))
        (row-along (piece-along lacks c d e) (piece-along lacks d c (sym e))
        (row-along (piece-along full c d e) (piece-along full d c (sym e)) (λ x. x))))))))) f

    made-along : (piece : List ℕ) → gathered_with limits s now c octets room piece ≡ gathered_with limits s now d octets room piece
    made-along piece = ap (λ (w : Waiting). gathered w (names_in octets) piece) e

    -- the same answer, member and room, and the same collection unless that is handed back as it was
    pub same-counted : (a : FragmentAnswer) (next : State) (kept : Collection) (after : List ℕ) →
        FragmentOutcome limits s now c octets room a next kept after →
        FragmentOutcome limits s now d octets room a next (kept_having d a kept) after
    same-counted _ _ _ _ (is-refused n p) = is-refused n (same_turn (refuses n) p)
    same-counted _ _ _ _ (is-passed-over p) = is-passed-over (same_turn passes_over p)
    same-counted _ _ _ _ (is-waiting x p h) =
        subst (λ (w : Waiting). FragmentOutcome limits s now d octets room waiting s (collection_of w) room) (sym (made-along x))
        (is-waiting x (same_turn waits p) h)
    same-counted _ _ _ _ (is-complete x {n} {next} p h u) =
        subst
        (λ (w : Waiting).
        FragmentOutcome limits s now d octets room (complete n (figure s.profile (whole w))) next empty_collection
        (put_at_start (whole w) room))
        (sym (made-along x))
        (is-complete x (same_turn completes p) h
        (subst (λ (w : Waiting). Outcome limits s now [] (whole w) n next) (made-along x) u))

  -- A COLLECTION THAT IS NOT FIT COUNTS AS EMPTY
  module _ (c : Collection) (unfit : fit c ≡ false) where
    as-nothing : counted c ≡ nothing
    unfolding counted
    as-nothing = rw unfit

    -- the same answer, member and room as the empty one gives, and the same collection unless the fragment is refused
    pub unfit-as-empty : (a : FragmentAnswer) (next : State) (kept : Collection) (after : List ℕ) →
        FragmentOutcome limits s now c octets room a next kept after →
        FragmentOutcome limits s now empty_collection octets room a next (kept_having empty_collection a kept) after
    unfit-as-empty = same-counted c empty_collection (as-nothing ∙ sym counted-empty)

    pub empty-as-unfit : (a : FragmentAnswer) (next : State) (kept : Collection) (after : List ℕ) →
        FragmentOutcome limits s now empty_collection octets room a next kept after →
        FragmentOutcome limits s now c octets room a next (kept_having c a kept) after
    empty-as-unfit = same-counted empty_collection c (counted-empty ∙ sym as-nothing)

    -- nothing is passed over by it
    never-passed : FirstTurn (judging_rows limits s now c octets room) passes_over → ⊥
    never-passed f =
        let n = fit-names limits s now c octets room (past-total limits s now c octets room passes_over (omega arith) f) in
        let z : ◌≡◌ {A = Case} Anew PassedOver =
        sym (nothing-anew (names_in octets) n) ∙ sym (ap (λ (w : Waiting). case_of w (names_in octets)) as-nothing)
        ∙ passed-over-is limits s now c octets room f in
        let y : ◌≡◌ {A = ℕ} 0 1 = cc in
        omega (arith, y)

    pub unfit-never-passed : (next : State) (kept : Collection) (after : List ℕ) →
        FragmentOutcome limits s now c octets room passed_over next kept after → ⊥
    unfit-never-passed _ _ _ (is-passed-over p) = never-passed p
