-- DEMAND 1 WITH TEN REFUSALS: "each exactly when its condition holds and no lower one does", lower being judged earlier, "and a refusal
-- changes nothing in the member". Outer 1, 2 and 10 keep the room, all else writes exactly the opened frame.
use native.Mathlib.Omega.{arith}
use Prim.Native.Nat.{ℕ, suc, ◌≤◌}
use mathlib.Core.Path.{◌≡◌, refl, sym, ap, ◌∙◌, subst}
use mathlib.Core.Bool.{Bool}
use mathlib.Core.Logic.{inl, inr, ⊎_elim, ◌↔◌}
use mathlib.Core.List.{List, [], ◌∷◌, ◌++◌, map}
use Rattle.state_keys.specs.Limits.{Limits}
use Rattle.octets.specs.Walk.{Reading}
use Rattle.wire_attributes.specs.Answers.{layout_of}
use Rattle.wire_frames.specs.Frame.{Frame, frame_layout, offset_of, figure}
use Rattle.wire_frames.specs.Grammar.{IsFrame}
use Rattle.wire_frames.proofs.FrameGrammar.{frame-read}
use Rattle.state.specs.declared.State.{State}
use Rattle.gcm.specs.Opening.{put_at_start}
use Rattle.rfc5282.specs.Number10.{OpensInto}
use Rattle.rfc5282.proofs.OneLaws.{opens_one}
use Rattle.rules_outcome.specs.Answer.{RefusalCase, First}
use Rattle.rules_outcome.specs.Outcome.{NoTree, Outcome}
use Rattle.rules_outcome.specs.Judging.{SomeHolds}
use Rattle.rules_outcome.specs.Meets.{RefusalRow, OfTree, of_tree, judging_order}
use Rattle.rules_outcome.proofs.First.{first_holds, none_first, first-left, first-right, some_left, some-split, first-at, at_first}
use Rattle.rules_outcome.proofs.Meets.{refused-first, accepted-is, accepted-none}
use Rattle.rules_outcome.proofs.Demands.{one-of-the-numbers}
use Rattle.rules_sealed.specs.SealingKey.{sealing_part}
use Rattle.rules_sealed.specs.SealedOutcome.{sealed_conditions, SealedOutcome, not_opened, by-opened}
use Rattle.rules_sealed.specs.SealedOrder.{OfOpened, on_opened, all_rows, opened_conditions, RoomAfter, room-as-lent}
use Rattle.rules_sealed.specs.SealedOrder.{room-written, SealedRefused, SealedAccepted}
use Rattle.rules_sealed.proofs.SealedDetermined.{none_before}

-- ---- the first of two lists, one behind the other
left-first : (l m : List RefusalCase) (n k : ℕ) → SomeHolds l k → First (l ++ m) n → First l n
left-first (c ∷ l) m n k h (inl p) = inl p
left-first (c ∷ l) m n k (inl h) (inr p) = absurd (p.0 h.0)
left-first (c ∷ l) m n k (inr h) (inr p) = inr (p.0, left-first l m n k h p.1)
left-first [] m n k h _ = elim h [ ]

right-first : (l m : List RefusalCase) (n : ℕ) → ((k : ℕ) → SomeHolds l k → ⊥) → First (l ++ m) n → First m n
right-first [] m n none p = p
right-first (c ∷ l) m n none (inl p) = absurd (none c.number (inl (p.0, refl)))
right-first (c ∷ l) m n none (inr p) = right-first l m n (λ k h. none k (inr h)) p.1

-- a whole frame carries no offset
whole-figure : (profile : Bool) (o : List ℕ) (f : Frame) → IsFrame profile o f → figure profile o ≡ 0
unfolding figure frame_layout
whole-figure profile o f e = ap (λ (x : Reading Frame). offset_of (layout_of x)) (frame-read profile o f e)

module _ (limits : Limits) (s : State) (now : ℕ) (octets room : List ℕ) where
  abbrev part : List ℕ
  part = sealing_part limits s

  abbrev before : List RefusalCase
  before = sealed_conditions limits s now octets room

  abbrev behind : List RefusalCase
  behind = opened_conditions limits s now octets room

  abbrev order : List ℕ → List RefusalCase
  order o = judging_order limits s now [] o

  -- ---- conditions on the opened frame, and on the octets that it is
  module _ (o : List ℕ) (h : OpensInto part octets room o) where
    from : (P : List ℕ → Type 0) → OfOpened limits s now octets room P → P o
    from P x = subst P (opens_one part octets x.opened o x.opens.opens h.opens) x.meets

    to : (P : List ℕ → Type 0) → P o → OfOpened limits s now octets room P
    to P x = record { opened = o; opens = h; meets = x }

    abbrev opened_rows : List RefusalRow → List RefusalCase
    opened_rows l = map (on_opened limits s now octets room) l

    rows-to : (l : List RefusalRow) (n : ℕ) → First (map (of_tree s.profile o) l) n → First (opened_rows l) n
    rows-to [] n p = p
    rows-to (r ∷ l) n (inl p) = inl (to (λ (x : List ℕ). OfTree s.profile x r.meets) p.0, p.1)
    rows-to (r ∷ l) n (inr p) = inr (λ x. p.0 (from (λ (y : List ℕ). OfTree s.profile y r.meets) x), rows-to l n p.1)

    rows-from : (l : List RefusalRow) (n : ℕ) → First (opened_rows l) n → First (map (of_tree s.profile o) l) n
    rows-from [] n p = p
    rows-from (r ∷ l) n (inl p) = inl (from (λ (x : List ℕ). OfTree s.profile x r.meets) p.0, p.1)
    rows-from (r ∷ l) n (inr p) = inr (λ x. p.0 (to (λ (y : List ℕ). OfTree s.profile y r.meets) x), rows-from l n p.1)

    some-from : (l : List RefusalRow) (n : ℕ) → SomeHolds (opened_rows l) n → SomeHolds (map (of_tree s.profile o) l) n
    some-from (r ∷ l) n (inl x) = inl (from (λ (y : List ℕ). OfTree s.profile y r.meets) x.0, x.1)
    some-from (r ∷ l) n (inr x) = inr (some-from l n x)
    some-from [] n h = elim h [ ]

    order-to : (n : ℕ) → First (order o) n → First behind n
    order-to n (inl p) = inl (to (NoTree s.profile) p.0, p.1)
    order-to n (inr p) = inr (λ x. p.0 (from (NoTree s.profile) x), rows-to (all_rows limits s now) n p.1)

    order_from : (n : ℕ) → First behind n → First (order o) n
    order_from n (inl p) = inl (from (NoTree s.profile) p.0, p.1)
    order_from n (inr p) = inr (λ x. p.0 (to (NoTree s.profile) x), rows-from (all_rows limits s now) n p.1)

    held-from : (n : ℕ) → SomeHolds behind n → SomeHolds (order o) n
    held-from n (inl x) = inl (from (NoTree s.profile) x.0, x.1)
    held-from n (inr x) = inr (some-from (all_rows limits s now) n x)

  -- ---- refusals
  refused-to : (n offset : ℕ) (next : State) (after : List ℕ) → SealedOutcome limits s now octets room (suc n) offset next after →
      SealedRefused limits s now octets room (suc n) offset next after
  refused-to _ _ _ _ (not_opened n p) =
      record {
        judged = first-at (before ++ behind) n (first-left before behind n p);
        stays = refl;
        room_after = room-as-lent (suc n) (first_holds before n p) refl refl;
      }
  refused-to _ _ _ _ (by-opened o {n = suc n} {next} p h u) =
      let none = none_before limits s now octets room p in
      let r = (refused-first limits s now [] o n next).0 u in
      record {
        judged =
            first-at (before ++ behind) n
            (first-right before behind (suc n) none (order-to o h (suc n) (at_first (order o) (suc n) r.0)));
        stays = r.1;
        room_after = room-written none o h refl refl;
      }

  given : (n offset : ℕ) (after : List ℕ) → First (before ++ behind) (suc n) → RoomAfter limits s now octets room offset after →
      SealedOutcome limits s now octets room (suc n) offset s after
  given n offset after p (room-as-lent m h eo er) =
      subst (λ (y : List ℕ). SealedOutcome limits s now octets room (suc n) offset s y) (sym er)
      (subst (λ (k : ℕ). SealedOutcome limits s now octets room (suc n) k s room) (sym eo)
      (not_opened n (left-first before behind (suc n) m h p)))
  given n offset after p (room-written none o h eo er) =
      subst (λ (y : List ℕ). SealedOutcome limits s now octets room (suc n) offset s y) (sym er)
      (subst (λ (k : ℕ). SealedOutcome limits s now octets room (suc n) k s (put_at_start o room)) (sym eo)
      (by-opened o (none_first before none) h
      ((refused-first limits s now [] o n s).1
      (first-at (order o) n (order_from o h (suc n) (right-first before behind (suc n) none p)), refl))))

  -- THE THEOREM
  pub sealed-refused-exactly : (n offset : ℕ) (next : State) (after : List ℕ) →
      SealedOutcome limits s now octets room (suc n) offset next after
      ↔ SealedRefused limits s now octets room (suc n) offset next after
  sealed-refused-exactly n offset next after = (
    refused-to n offset next after,
    λ r.
        subst (λ (x : State). SealedOutcome limits s now octets room (suc n) offset x after) (sym r.stays)
        (given n offset after (at_first (before ++ behind) (suc n) r.judged) r.room_after),
  )

  -- ---- acceptance
  none-of-all : (o : List ℕ) → OpensInto part octets room o → (next : State) → Outcome limits s now [] o 0 next →
      ((m : ℕ) → SomeHolds before m → ⊥) → (m : ℕ) → SomeHolds (before ++ behind) m → ⊥
  none-of-all o h next u none m x =
      ⊎_elim (none m) (λ y. accepted-none limits s now [] o next (accepted-is limits s now [] o next u) m (held-from o h m y))
      (some-split before behind m x)

  accepted-to : (offset : ℕ) (next : State) (after : List ℕ) → SealedOutcome limits s now octets room 0 offset next after →
      SealedAccepted limits s now octets room offset next after
  accepted-to _ _ _ (by-opened o {next = next} p h u) =
      let a = accepted-is limits s now [] o next u in
      record {
        none = none-of-all o h next u (none_before limits s now octets room p);
        opened = o;
        opens = h;
        outcome = u;
        offset-is = whole-figure s.profile o a.tree a.layout;
        room-is = refl;
      }

  accepted-from : (offset : ℕ) (next : State) (after : List ℕ) → SealedAccepted limits s now octets room offset next after →
      SealedOutcome limits s now octets room 0 offset next after
  accepted-from offset next after a =
      let w = accepted-is limits s now [] a.opened next a.outcome in
      subst (λ (y : List ℕ). SealedOutcome limits s now octets room 0 offset next y) (sym a.room-is)
      (subst (λ (k : ℕ). SealedOutcome limits s now octets room 0 k next (put_at_start a.opened room))
      (whole-figure s.profile a.opened w.tree w.layout ∙ sym a.offset-is)
      (by-opened a.opened (none_first before (λ m x. a.none m (some_left before behind m x))) a.opens a.outcome))

  pub sealed-accepted-exactly : (offset : ℕ) (next : State) (after : List ℕ) →
      SealedOutcome limits s now octets room 0 offset next after ↔ SealedAccepted limits s now octets room offset next after
  sealed-accepted-exactly offset next after = (accepted-to offset next after, accepted-from offset next after)

  -- "demand 1's tenth refusal": no number is above it
  before-most : (n : ℕ) → SomeHolds before n → n ≤ 10
  before-most n (inl h) = let e = h.1 in omega arith
  before-most n (inr (inl h)) = let e = h.1 in omega arith
  before-most n (inr (inr (inl h))) = let e = h.1 in omega arith
  before-most n (inr (inr (inr h))) = elim h [ ]

  pub one-of-ten : (n offset : ℕ) (next : State) (after : List ℕ) → SealedOutcome limits s now octets room n offset next after → n ≤ 10
  one-of-ten _ _ _ _ (not_opened n p) = before-most (suc n) (first_holds before n p)
  one-of-ten _ _ _ _ (by-opened o {n} {next} p h u) = let l = one-of-the-numbers limits s now [] o n next u in omega arith
