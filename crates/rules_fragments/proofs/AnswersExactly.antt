-- DEMAND 1 FOR FRAGMENTS: "each exactly when its condition holds and no lower one does", lower being judged earlier; what each answer is,
-- and what it leaves as it was; a complete frame is answered as if it had come whole and opened.
use native.Mathlib.Omega.{arith}
use Prim.Native.Nat.{ℕ, ◌≤◌}
use mathlib.Core.Path.{◌≡◌, refl, ap, sym, subst}
use mathlib.Core.Bool.{true}
use mathlib.Core.Logic.{◌⊎◌, inl, inr, ◌↔◌}
use mathlib.Core.List.{List, [], ◌∷◌}
use lib.Dec.{eqb}
use Rattle.lists.specs.Lists.{any}
use Rattle.state_keys.specs.Limits.{Limits}
use Rattle.wire_frames.specs.Frame.{figure}
use Rattle.state.specs.declared.State.{State}
use Rattle.gcm.specs.Opening.{put_at_start}
use Rattle.fragments.specs.declared.Collection.{Collection}
use Rattle.fragments.specs.Collection.{collection_of, empty_collection}
use Rattle.fragments.specs.Gathering.{whole}
use Rattle.rules_outcome.proofs.Demands.{one-of-the-numbers, refusal-keeps}
use Rattle.rules_fragments.specs.FragmentOutcome.{FragmentAnswer, refused, passed_over, waiting, complete}
use Rattle.rules_fragments.specs.FragmentOutcome.{refuses, passes_over, waits, completes, FirstTurn}
use Rattle.rules_fragments.specs.FragmentOutcome.{gathered_with, judging_rows}
use Rattle.rules_fragments.specs.FragmentOutcome.{FragmentOutcome, is-refused, is-passed-over, is-waiting, is-complete}
use Rattle.rules_fragments.specs.FragmentOrder.{AllStays, FragmentRefused, FragmentPassed, FragmentWaits, whole_with, AnsweredWhole}
use Rattle.rules_fragments.proofs.TurnLaws.{place_of, turn_at, at_turn}
use Rattle.rules_fragments.proofs.PastLaws.{past_row}
use Rattle.rules_fragments.proofs.WholeHeader.{any_lent}

-- a refusal is that of the first row, or of a later one
first-or : {A B P : Type 0} (n m : ℕ) → (A × (refuses n ≡ refuses m)) ⊎ ((A → ⊥) × B) → (n ≡ m → P) → (B → P) → P
first-or n m (inl p) x y = let e = ap place_of p.1 in x (omega (arith, e))
first-or n m (inr p) x y = y p.1

module _ (limits : Limits) (s : State) (now : ℕ) (c : Collection) (octets room : List ℕ) where
  abbrev Out : FragmentAnswer → State → Collection → List ℕ → Type 0
  Out = FragmentOutcome limits s now c octets room

  as-was : AllStays limits s now c octets room s c room
  as-was = record { member = refl; collection = refl; room-stays = refl }

  -- what stays can be put in its place
  stayed : (a : FragmentAnswer) (next : State) (kept : Collection) (after : List ℕ) → AllStays limits s now c octets room next kept after →
      FragmentOutcome limits s now c octets room a s c room → FragmentOutcome limits s now c octets room a next kept after
  stayed a next kept after e o =
      subst (λ (y : List ℕ). Out a next kept y) (sym e.room-stays)
      (subst (λ (d : Collection). Out a next d room) (sym e.collection) (subst (λ (x : State). Out a x c room) (sym e.member) o))

  -- REFUSED with a number: exactly when a row of that number holds and none judged earlier does; number 7 stands at two places
  refused-to : (n offset : ℕ) (next : State) (kept : Collection) (after : List ℕ) →
      FragmentOutcome limits s now c octets room (refused n offset) next kept after →
      FragmentRefused limits s now c octets room n offset next kept after
  refused-to _ _ _ _ _ (is-refused n p) =
      record { judged = turn_at (judging_rows limits s now c octets room) (refuses n) p; offset-is = refl; stays = as-was }

  pub fragment-refused-exactly : (n offset : ℕ) (next : State) (kept : Collection) (after : List ℕ) →
      FragmentOutcome limits s now c octets room (refused n offset) next kept after
      ↔ FragmentRefused limits s now c octets room n offset next kept after
  fragment-refused-exactly n offset next kept after = (
    refused-to n offset next kept after,
    λ r.
        stayed (refused n offset) next kept after r.stays
        (subst (λ (k : ℕ). Out (refused n k) s c room) (sym r.offset-is)
        (is-refused n (at_turn (judging_rows limits s now c octets room) (refuses n) r.judged))),
  )

  -- PASSED OVER
  passed_to : (next : State) (kept : Collection) (after : List ℕ) →
      FragmentOutcome limits s now c octets room passed_over next kept after → FragmentPassed limits s now c octets room next kept after
  passed_to _ _ _ (is-passed-over p) =
      record { judged = turn_at (judging_rows limits s now c octets room) passes_over p; stays = as-was }

  pub fragment-passed-exactly : (next : State) (kept : Collection) (after : List ℕ) →
      FragmentOutcome limits s now c octets room passed_over next kept after ↔ FragmentPassed limits s now c octets room next kept after
  fragment-passed-exactly next kept after = (
    passed_to next kept after,
    λ r.
        stayed passed_over next kept after r.stays
        (is-passed-over (at_turn (judging_rows limits s now c octets room) passes_over r.judged)),
  )

  -- WAITING: "until then member and room are unchanged"
  waits-to : (next : State) (kept : Collection) (after : List ℕ) →
      FragmentOutcome limits s now c octets room waiting next kept after → FragmentWaits limits s now c octets room next kept after
  waits-to _ _ _ (is-waiting x p h) =
      record {
        judged = turn_at (judging_rows limits s now c octets room) waits p;
        piece = x;
        opens = h;
        collection = refl;
        member = refl;
        room-stays = refl;
      }

  waits-from : (next : State) (kept : Collection) (after : List ℕ) → FragmentWaits limits s now c octets room next kept after →
      FragmentOutcome limits s now c octets room waiting next kept after
  waits-from next kept after r =
      subst (λ (y : List ℕ). Out waiting next kept y) (sym r.room-stays)
      (subst (λ (d : Collection). Out waiting next d room) (sym r.collection)
      (subst (λ (x : State). Out waiting x (collection_of (gathered_with limits s now c octets room r.piece)) room) (sym r.member)
      (is-waiting r.piece (at_turn (judging_rows limits s now c octets room) waits r.judged) r.opens)))

  pub fragment-waits-exactly : (next : State) (kept : Collection) (after : List ℕ) →
      FragmentOutcome limits s now c octets room waiting next kept after ↔ FragmentWaits limits s now c octets room next kept after
  fragment-waits-exactly next kept after = (waits-to next kept after, waits-from next kept after)

  -- COMPLETE: number, offset and member are those of `receive` on the whole frame, whatever key is lent; the room starts with it, and the
  -- collection is empty, whatever the answer
  complete-to : (n offset : ℕ) (next : State) (kept : Collection) (after : List ℕ) →
      FragmentOutcome limits s now c octets room (complete n offset) next kept after →
      AnsweredWhole limits s now c octets room n offset next kept after
  complete-to _ _ _ _ _ (is-complete x {n} {next} p h u) =
      record {
        judged = turn_at (judging_rows limits s now c octets room) completes p;
        piece = x;
        opens = h;
        outcome = λ lent. any_lent limits s now c octets room x h [] lent n next u;
        offset-is = refl;
        room-is = refl;
        emptied = refl;
      }

  complete-from : (n offset : ℕ) (next : State) (kept : Collection) (after : List ℕ) →
      AnsweredWhole limits s now c octets room n offset next kept after →
      FragmentOutcome limits s now c octets room (complete n offset) next kept after
  complete-from n offset next kept after r =
      let o = whole_with limits s now c octets room r.piece in
      subst (λ (y : List ℕ). Out (complete n offset) next kept y) (sym r.room-is)
      (subst (λ (d : Collection). Out (complete n offset) next d (put_at_start o room)) (sym r.emptied)
      (subst (λ (k : ℕ). Out (complete n k) next empty_collection (put_at_start o room)) (sym r.offset-is)
      (is-complete r.piece (at_turn (judging_rows limits s now c octets room) completes r.judged) r.opens (r.outcome []))))

  pub completes-as-whole : (n offset : ℕ) (next : State) (kept : Collection) (after : List ℕ) →
      FragmentOutcome limits s now c octets room (complete n offset) next kept after
      ↔ AnsweredWhole limits s now c octets room n offset next kept after
  completes-as-whole n offset next kept after = (complete-to n offset next kept after, complete-from n offset next kept after)

  -- "until then member and room are unchanged"
  pub else-unchanged : (a : FragmentAnswer) (next : State) (kept : Collection) (after : List ℕ) →
      FragmentOutcome limits s now c octets room a next kept after → ((n offset : ℕ) → a ≡ complete n offset → ⊥) →
      (next ≡ s) × (after ≡ room)
  else-unchanged _ _ _ _ (is-refused n p) other = (refl, refl)
  else-unchanged _ _ _ _ (is-passed-over p) other = (refl, refl)
  else-unchanged _ _ _ _ (is-waiting x p h) other = (refl, refl)
  else-unchanged _ _ _ _ (is-complete x {n} p h u) other =
      absurd (other n (figure s.profile (whole (gathered_with limits s now c octets room x))) refl)

  -- the number of a complete frame is one of 0 to 9: "Complete" is judged past 10
  pub complete-never-10 : (n offset : ℕ) (next : State) (kept : Collection) (after : List ℕ) →
      FragmentOutcome limits s now c octets room (complete n offset) next kept after → n ≤ 9
  complete-never-10 n offset next kept after o =
      let w = complete-to n offset next kept after o in
      one-of-the-numbers limits s now [] (whole_with limits s now c octets room w.piece) n next (w.outcome [])

  -- a complete frame that was refused leaves member and collection as before its fragments: copies of them start a collection again
  pub refused-whole-again : (n offset : ℕ) (next : State) (kept : Collection) (after : List ℕ) →
      FragmentOutcome limits s now c octets room (complete n offset) next kept after → (n ≡ 0 → ⊥) →
      (next ≡ s) × (kept ≡ empty_collection)
  refused-whole-again n offset next kept after o z =
      let w = complete-to n offset next kept after o in (
        refusal-keeps limits s now [] (whole_with limits s now c octets room w.piece) n next (w.outcome []) z,
        w.emptied,
      )

  -- a fragment is refused with 1, 2, 10, 3 or 7
  five : (n : ℕ) → FirstTurn (judging_rows limits s now c octets room) (refuses n) → any (eqb n) (1 ∷ 2 ∷ 10 ∷ 3 ∷ 7 ∷ []) ≡ true
  unfolding any
  five n f =
      first-or n 1 f (λ e. rw e) (λ a.
      first-or n 2 a (λ e. rw e) (λ b.
      first-or n 10 b (λ e. rw e) (λ d.
      first-or n 3 d (λ e. rw e) (λ g.
      first-or n 7 g (λ e. rw e) (λ h.
      first-or n 7 (past_row h (λ e. omega (arith, e))).1 (λ e. rw e) (λ k.
      absurd (past_row (past_row k (λ e. omega (arith, e))).1 (λ e. omega (arith, e))).1))))))

  pub one-of-five : (n offset : ℕ) (next : State) (kept : Collection) (after : List ℕ) →
      FragmentOutcome limits s now c octets room (refused n offset) next kept after → any (eqb n) (1 ∷ 2 ∷ 10 ∷ 3 ∷ 7 ∷ []) ≡ true
  one-of-five _ _ _ _ _ (is-refused n p) = five n p
