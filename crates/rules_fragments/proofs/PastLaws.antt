-- What is known of a fragment by how far it came in judging order.
use native.Mathlib.Omega.{arith}
use Prim.Native.Nat.{ℕ, ◌≤◌, ◌<◌}
use mathlib.Core.Path.{◌≡◌, ap, sym, ◌∙◌, subst}
use mathlib.Core.Bool.{true, false, false≢true}
use mathlib.Core.Logic.{◌⊎◌, inl, inr}
use mathlib.Core.List.{List}
use lib.ListN.{drop}
use Rattle.lists.proofs.Cases.{bool_cases, lt-cases}
use Rattle.ikev2_numbers.specs.Codes.{most_octets}
use Rattle.state_keys.specs.Limits.{Limits}
use Rattle.wire_frames.specs.Header.{header_of}
use Rattle.state.specs.declared.State.{State}
use Rattle.rules_refusals.specs.Refusals.{applies, number3}
use Rattle.rfc5282.specs.Number10.{UnopenedFragment, OpensFragmentInto}
use Rattle.rfc5282.specs.OuterFragment.{IsFragment, outer_fragment, total_in}
use Rattle.rfc5282.proofs.FragmentLaws.{Fragment, fragment-is, relates-fragment}
use Rattle.rfc5282.proofs.PieceLaws.{piece-one}
use Rattle.fragments.specs.declared.Case.TheVariants.{PassedOver}
use Rattle.fragments.specs.declared.Collection.{Collection}
use Rattle.fragments.specs.Collection.{most_fragments, frame_size, counted}
use Rattle.fragments.specs.Gathering.{case_of, is_complete}
use Rattle.rules_sealed.specs.SealingKey.{sealing_part}
use Rattle.rules_sealed.specs.SealedOutcome.{sealed_number2}
use Rattle.rules_fragments.specs.FragmentOutcome.{Turn, passes_over, waits, completes, FirstTurn, names_in}
use Rattle.rules_fragments.specs.FragmentOutcome.{gathered_with, OfPiece, judging_rows}
use Rattle.rules_fragments.proofs.TurnLaws.{place_of}

-- a row of another turn is past
pub past_row : {A B : Type 0} {t u : Turn} → (A × (t ≡ u)) ⊎ ((A → ⊥) × B) → (place_of t ≡ place_of u → ⊥) → (A → ⊥) × B
past_row (inl p) other = absurd (other (ap place_of p.1))
past_row (inr p) other = p

-- the fragment's layout is not refused, so it is whole
pub laid_out : (octets : List ℕ) → ((IsFragment octets → ⊥) → ⊥) → Fragment octets
laid_out octets n =
    bool_cases (outer_fragment octets) (λ e. fragment-is octets e)
    (λ e. absurd (n (λ i. false≢true (sym e ∙ relates-fragment octets i))))

module _ (limits : Limits) (s : State) (now : ℕ) (c : Collection) (octets room : List ℕ) where
  -- past 1, 2, 10, 3 and a total over 32
  pub record PastTotal : Type 0 where
    pub whole-layout : Fragment octets
    pub no-2 : applies (sealed_number2 limits s now (header_of octets)) ≡ true → ⊥
    pub no-10 : UnopenedFragment (sealing_part limits s) octets room → ⊥
    pub no-3 : applies (number3 s (header_of octets).exchange (header_of octets).message_id) ≡ true → ⊥
    pub total-most : total_in octets ≤ most_fragments

  -- and not passed over, and not over 16,384 octets so far
  pub record PastSize : Type 0 where
    pub past : PastTotal
    pub not-passed : case_of (counted c) (names_in octets) ≡ PassedOver → ⊥
    pub fits : (p : List ℕ) → OpensFragmentInto (sealing_part limits s) octets room p →
        frame_size (gathered_with limits s now c octets room p).kept ≤ most_octets

  module _ (t : Turn) (low : place_of t ≤ 2) (f : FirstTurn (judging_rows limits s now c octets room) t) where
    pub past-total : PastTotal
    past-total =
        let a = past_row f (λ e. omega (arith, low, e)) in
        let b = past_row a.1 (λ e. omega (arith, low, e)) in
        let d = past_row b.1 (λ e. omega (arith, low, e)) in
        let g = past_row d.1 (λ e. omega (arith, low, e)) in
        let h = past_row g.1 (λ e. omega (arith, low, e)) in
        record {
          whole-layout = laid_out octets a.0;
          no-2 = b.0;
          no-10 = d.0;
          no-3 = g.0;
          total-most = lt-cases most_fragments (total_in octets) (λ l. absurd (h.0 l)) (λ l. l);
        }

    -- what is judged behind the total
    pub behind-total : FirstTurn (drop 5 (judging_rows limits s now c octets room)) t
    behind-total =
        let a = past_row f (λ e. omega (arith, low, e)) in
        let b = past_row a.1 (λ e. omega (arith, low, e)) in
        let d = past_row b.1 (λ e. omega (arith, low, e)) in
        let g = past_row d.1 (λ e. omega (arith, low, e)) in
        (past_row g.1 (λ e. omega (arith, low, e))).1

  -- a condition on the piece is one on any piece that the fragment opens to
  pub of-piece : (P : List ℕ → Type 0) (p : List ℕ) → OpensFragmentInto (sealing_part limits s) octets room p →
      OfPiece limits s now c octets room P → P p
  of-piece P p h x = subst P (piece-one (sealing_part limits s) octets x.piece p x.opens.opens h.opens) x.meets

  module _ (t : Turn) (least : 1 ≤ place_of t) (low : place_of t ≤ 2) (f : FirstTurn (judging_rows limits s now c octets room) t) where
    behind-size : (case_of (counted c) (names_in octets) ≡ PassedOver → ⊥)
        × (OfPiece limits s now c octets room (λ p. most_octets < frame_size (gathered_with limits s now c octets room p).kept) → ⊥)
        × FirstTurn (drop 7 (judging_rows limits s now c octets room)) t
    behind-size =
        let a = past_row (behind-total t low f) (λ e. omega (arith, least, e)) in
        let b = past_row a.1 (λ e. omega (arith, low, e)) in
        (a.0, b.0, b.1)

    pub past-size : PastSize
    past-size =
        let b = behind-size in
        record {
          past = past-total t low f;
          not-passed = b.0;
          fits = λ p h.
              lt-cases most_octets (frame_size (gathered_with limits s now c octets room p).kept)
              (λ l. absurd (b.1 (record { piece = p; opens = h; meets = l }))) (λ l. l);
        }

  -- passed over, waiting and complete say what they are
  pub passed-over-is : FirstTurn (judging_rows limits s now c octets room) passes_over → case_of (counted c) (names_in octets) ≡ PassedOver
  passed-over-is f = held (behind-total passes_over (omega arith) f)
    where
      held : FirstTurn (drop 5 (judging_rows limits s now c octets room)) passes_over → case_of (counted c) (names_in octets) ≡ PassedOver
      held (inl p) = p.0
      held (inr p) =
          let a = past_row p.1 (λ e. omega (arith, e)) in
          let b = past_row a.1 (λ e. omega (arith, e)) in
          absurd (past_row b.1 (λ e. omega (arith, e))).1

  module _ (p : List ℕ) (h : OpensFragmentInto (sealing_part limits s) octets room p) where
    pub waits-is : FirstTurn (judging_rows limits s now c octets room) waits → is_complete (gathered_with limits s now c octets room p) ≡ false
    waits-is f = held (behind-size waits (omega arith) (omega arith) f).2
      where
        held : FirstTurn (drop 7 (judging_rows limits s now c octets room)) waits →
            is_complete (gathered_with limits s now c octets room p) ≡ false
        held (inl x) = of-piece (λ q. is_complete (gathered_with limits s now c octets room q) ≡ false) p h x.0
        held (inr x) = absurd (past_row x.1 (λ e. omega (arith, e))).1

    pub completes-is : FirstTurn (judging_rows limits s now c octets room) completes →
        is_complete (gathered_with limits s now c octets room p) ≡ true
    completes-is f = held (past_row (behind-size completes (omega arith) (omega arith) f).2 (λ e. omega (arith, e))).1
      where
        held : FirstTurn (drop 8 (judging_rows limits s now c octets room)) completes →
            is_complete (gathered_with limits s now c octets room p) ≡ true
        held (inl x) = of-piece (λ q. is_complete (gathered_with limits s now c octets room q) ≡ true) p h x.0
        held (inr x) = absurd x.1
