-- THE SEALED OUTCOME IS ONE, and no input is without one. Past outer 1, 2 and 10 it is that of the opened frame, whatever key is lent.
use native.Mathlib.Omega.{arith}
use Prim.Native.Nat.{ℕ, suc, ◌≤◌}
use mathlib.Core.Path.{◌≡◌, refl, sym, ap, ◌∙◌, subst}
use mathlib.Core.Bool.{true, false≢true}
use mathlib.Core.Logic.{◌⊎◌, inl, inr, ◌↔◌}
use mathlib.Core.List.{List, []}
use lib.ListN.{length}
use Rattle.lists.proofs.Cases.{bool_cases}
use Rattle.octets.specs.Octets.{Octets}
use Rattle.ikev2_numbers.specs.Codes.{most_octets}
use Rattle.state_keys.specs.Limits.{Limits}
use Rattle.wire_frames.specs.Header.{header_of}
use Rattle.wire_frames.specs.Frame.{figure}
use Rattle.state.specs.declared.State.{State}
use Rattle.rules_refusals.specs.Refusals.{applies}
use Rattle.gcm.specs.Opening.{put_at_start}
use Rattle.rfc5282.specs.Keys.{aes_key_of, salt_of, FitPart}
use Rattle.rfc5282.specs.SealedFrame.{Choice, FitChoice, OpenedFrame, sealed_frame}
use Rattle.rfc5282.specs.Outer.{outer, IsOuter}
use Rattle.rfc5282.specs.Number10.{Unopened, OpensInto}
use Rattle.rfc5282.proofs.OneLaws.{opens_one}
use Rattle.rfc5282.proofs.OuterLaws.{outer-is}
use Rattle.rfc5282.proofs.LayoutLaws.{outer-relates, relates-outer}
use Rattle.rfc5282.proofs.Number10Laws.{unopened-none, unopened-or-opens, sealed-not-unopened}
use Rattle.rules_outcome.specs.Answer.{First}
use Rattle.rules_outcome.specs.Outcome.{Outcome}
use Rattle.rules_outcome.specs.Judging.{SomeHolds}
use Rattle.rules_outcome.proofs.First.{first_one, first-none, first_holds}
use Rattle.rules_outcome.proofs.NotRead.{same_outcome}
use Rattle.rules_outcome.proofs.Demands.{one-of-the-numbers}
use Rattle.rules_outcome.proofs.Determined.{outcome-one}
use Rattle.rules_outcome.proofs.EachAnswered.{each-answered}
use Rattle.rules_sealed.specs.SealingKey.{sealing_part}
use Rattle.rules_sealed.specs.SealedOutcome.{sealed_number2, sealed_conditions, SealedOutcome, not_opened, by-opened}
use Rattle.rules_sealed.proofs.SealedHeader.{opened-rekey}

module _ (limits : Limits) (s : State) (now : ℕ) (octets room : List ℕ) where
  abbrev part : List ℕ
  part = sealing_part limits s

  abbrev Sealed : ℕ → ℕ → State → List ℕ → Type 0
  Sealed = SealedOutcome limits s now octets room

  -- "Every public call's promise determines its answer and the member or lent storage after it, also on refusal, for all inputs"
  pub sealed-one : (n m offset other : ℕ) (next after : State) (left rest : List ℕ) →
      SealedOutcome limits s now octets room n offset next left →
      SealedOutcome limits s now octets room m other after rest → (n ≡ m) × (offset ≡ other) × (next ≡ after) × (left ≡ rest)
  sealed-one _ _ _ _ _ _ _ _ (not_opened n p) (not_opened m q) =
      (first_one (sealed_conditions limits s now octets room) (suc n) (suc m) p q, refl, refl, refl)
  sealed-one _ _ _ _ _ _ _ _ (not_opened n p) (by-opened o q h u) =
      let e = first_one (sealed_conditions limits s now octets room) (suc n) 0 p q in absurd (omega arith)
  sealed-one _ _ _ _ _ _ _ _ (by-opened o p h u) (not_opened m q) =
      let e = first_one (sealed_conditions limits s now octets room) 0 (suc m) p q in absurd (omega arith)
  sealed-one _ _ _ _ _ _ _ _ (by-opened o {n} {next} p h u) (by-opened x {n = m} {next = after} q k v) =
      let e = opens_one part octets o x h.opens k.opens in
      let r = outcome-one limits s now [] x n m next after (subst (λ (y : List ℕ). Outcome limits s now [] y n next) e u) v in
      (r.0, ap (figure s.profile) e, r.1, ap (λ (y : List ℕ). put_at_start y room) e)

  -- past what is judged first, none of it holds
  pub none_before : First (sealed_conditions limits s now octets room) 0 → (m : ℕ) →
      SomeHolds (sealed_conditions limits s now octets room) m → ⊥
  none_before p = first-none (sealed_conditions limits s now octets room) refl p

  pub no-number-2 : First (sealed_conditions limits s now octets room) 0 → applies (sealed_number2 limits s now (header_of octets)) ≡ true → ⊥
  no-number-2 p a = none_before p 2 (inr (inl (a, refl)))

  -- ---- what was opened
  module _ (o : List ℕ) (p : First (sealed_conditions limits s now octets room) 0) (h : OpensInto part octets room o) where
    -- no lent key is read
    pub lent-not-read-opened : (lent other : List ℕ) (n : ℕ) (next : State) → Outcome limits s now lent o n next →
        Outcome limits s now other o n next
    lent-not-read-opened lent other =
        same_outcome limits s now lent other o (λ f e. opened-rekey limits s now octets (no-number-2 p) s.profile part room o h f e)

    -- THE SEALED FRAME'S OUTCOME IS THAT OF WHAT WAS OPENED: number, offset and member, whatever key is lent; the room starts with it
    pub receives-opened : (lent : List ℕ) (n offset : ℕ) (next : State) (after : List ℕ) →
        SealedOutcome limits s now octets room n offset next after
        ↔ (Outcome limits s now lent o n next × (offset ≡ figure s.profile o) × (after ≡ put_at_start o room))
    receives-opened lent n offset next after = (to n offset next after, from)
      where
        to : (n offset : ℕ) (next : State) (after : List ℕ) → SealedOutcome limits s now octets room n offset next after →
            Outcome limits s now lent o n next × (offset ≡ figure s.profile o) × (after ≡ put_at_start o room)
        to _ _ _ _ (not_opened n q) =
            let e = first_one (sealed_conditions limits s now octets room) (suc n) 0 q p in absurd (omega arith)
        to _ _ _ _ (by-opened x {n} {next} q k u) =
            let e = opens_one part octets x o k.opens h.opens in (
              lent-not-read-opened [] lent n next (subst (λ (y : List ℕ). Outcome limits s now [] y n next) e u),
              ap (figure s.profile) e,
              ap (λ (y : List ℕ). put_at_start y room) e,
            )

        from : Outcome limits s now lent o n next × (offset ≡ figure s.profile o) × (after ≡ put_at_start o room) →
            SealedOutcome limits s now octets room n offset next after
        from w =
            subst (λ (y : List ℕ). SealedOutcome limits s now octets room n offset next y) (sym w.2)
            (subst (λ (k : ℕ). SealedOutcome limits s now octets room n k next (put_at_start o room)) (sym w.1)
            (by-opened o p h (lent-not-read-opened lent [] n next w.0)))

  -- ---- number 10
  unopened-of : SomeHolds (sealed_conditions limits s now octets room) 10 → Unopened part octets room
  unopened-of (inl h) = let e = h.1 in absurd (omega arith)
  unopened-of (inr (inl h)) = let e = h.1 in absurd (omega arith)
  unopened-of (inr (inr (inl h))) = h.0
  unopened-of (inr (inr (inr h))) = elim h [ ]

  -- given for a clause of number 10 alone: an opened frame never is
  pub unopened-given : (offset : ℕ) (next : State) (after : List ℕ) → SealedOutcome limits s now octets room 10 offset next after →
      Unopened part octets room
  unopened-given offset next after r = go 10 offset next after r refl
    where
      go : (n offset : ℕ) (next : State) (after : List ℕ) → SealedOutcome limits s now octets room n offset next after → n ≡ 10 →
          Unopened part octets room
      go _ _ _ _ (not_opened n p) e =
          unopened-of (first_holds (sealed_conditions limits s now octets room) 9
          (subst (First (sealed_conditions limits s now octets room)) e p))
      go _ _ _ _ (by-opened o {n} {next} p h u) e = let l = one-of-the-numbers limits s now [] o n next u in absurd (omega arith)

-- "a frame sealed for this member, with room": never 10
module _ (limits : Limits) (s : State) (now : ℕ) (o room : List ℕ) (c : Choice) where
  abbrev octets : List ℕ
  octets = sealed_frame (aes_key_of (sealing_part limits s)) (salt_of (sealing_part limits s)) o c

  pub sealed-never-10 : FitChoice c → OpenedFrame o → length octets ≤ most_octets → most_octets ≤ length room →
      (n offset : ℕ) (next : State) (after : List ℕ) → SealedOutcome limits s now octets room n offset next after → n ≡ 10 → ⊥
  sealed-never-10 fit is most holds n offset next after r e =
      sealed-not-unopened (sealing_part limits s) o room c fit is most holds
      (unopened-given limits s now octets room offset next after
      (subst (λ (k : ℕ). SealedOutcome limits s now octets room k offset next after) e r))

-- `receive` never answers 10
pub receive-never-10 : (limits : Limits) (s : State) (now : ℕ) (lent octets : List ℕ) (n : ℕ) (next : State) →
    Outcome limits s now lent octets n next → n ≡ 10 → ⊥
receive-never-10 limits s now lent octets n next o e = let l = one-of-the-numbers limits s now lent octets n next o in omega arith

-- ---- no input is without an outcome, where octets are octets and the key past number 2 is one
module _ (limits : Limits) (s : State) (now : ℕ) (octets room : List ℕ) (o : Octets octets)
    (fit : (applies (sealed_number2 limits s now (header_of octets)) ≡ true → ⊥) → FitPart (sealing_part limits s))
    (none : (n offset : ℕ) (next : State) (after : List ℕ) → SealedOutcome limits s now octets room n offset next after → ⊥) where
  judged-10 : IsOuter octets → outer octets ≡ true → (applies (sealed_number2 limits s now (header_of octets)) ≡ true → ⊥) →
      Unopened (sealing_part limits s) octets room ⊎ ((x : List ℕ) × OpensInto (sealing_part limits s) octets room x) → ⊥
  judged-10 i e no-2 (inl u) =
      none 10 0 s room (not_opened 9 (inr (λ k. k i, inr (no-2, inl (u, refl)))))
  judged-10 i e no-2 (inr h) =
      each-answered limits s now [] h.0 (λ n next r.
      none n (figure s.profile h.0) next (put_at_start h.0 room)
      (by-opened h.0 (inr (λ k. k i, inr (no-2, inr (λ u. unopened-none (sealing_part limits s) octets room u h.0 h.1, refl))))
      h.1
      r))

  judged-2 : outer octets ≡ true → ⊥
  judged-2 e =
      let i = outer-relates octets o e in
      bool_cases (applies (sealed_number2 limits s now (header_of octets)))
      (λ a. none 2 0 s room (not_opened 1 (inr (λ k. k i, inl (a, refl)))))
      (λ a.
      let no-2 : applies (sealed_number2 limits s now (header_of octets)) ≡ true → ⊥ = λ q. false≢true (sym a ∙ q) in
      judged-10 i e no-2 (unopened-or-opens (sealing_part limits s) octets room (fit no-2) o (outer-is octets e)))

  pub sealed-answered : ⊥
  sealed-answered =
      bool_cases (outer octets) judged-2
      (λ e. none 1 0 s room (not_opened 0 (inl (λ i. false≢true (sym e ∙ relates-outer octets i), refl))))
