-- NO INPUT IS WITHOUT AN OUTCOME, where octets are octets and the key past number 2 is one.
use native.Mathlib.Omega.{arith}
use Prim.Native.Nat.{ℕ}
use mathlib.Core.Path.{◌≡◌}
use mathlib.Core.Bool.{true}
use mathlib.Core.Logic.{inl, inr, ⊎_elim}
use mathlib.Core.List.{List, []}
use Rattle.lists.proofs.Cases.{bool_cases}
use Rattle.octets.specs.Octets.{Octets}
use Rattle.state_keys.specs.Limits.{Limits}
use Rattle.wire_frames.specs.Header.{header_of}
use Rattle.state.specs.declared.State.{State}
use Rattle.rules_refusals.specs.Refusals.{applies}
use Rattle.rfc5282.specs.Keys.{FitPart}
use Rattle.rfc5282.specs.Number10.{UnopenedFragment, OpensFragmentInto}
use Rattle.rfc5282.proofs.FragmentLaws.{Fragment}
use Rattle.rfc5282.proofs.Number10Laws.{unopened-fragment-or-opens}
use Rattle.fragments.specs.declared.Collection.{Collection}
use Rattle.fragments.specs.Gathering.{is_complete, whole}
use Rattle.rules_outcome.proofs.EachAnswered.{each-answered}
use Rattle.rules_sealed.specs.SealingKey.{sealing_part}
use Rattle.rules_sealed.specs.SealedOutcome.{sealed_number2}
use Rattle.rules_fragments.specs.FragmentOutcome.{FragmentAnswer, gathered_with}
use Rattle.rules_fragments.specs.FragmentOutcome.{Turn, refuses, passes_over, waits, completes, FirstTurn, judging_rows}
use Rattle.rules_fragments.specs.FragmentOutcome.{FragmentOutcome, is-refused, is-passed-over, is-waiting, is-complete}
use Rattle.rules_fragments.specs.FragmentOrder.{AnyHolds}
use Rattle.rules_fragments.proofs.TurnLaws.{none-holds}
use Rattle.rules_fragments.proofs.PastLaws.{past-total, laid_out}

module _ (limits : Limits) (s : State) (now : ℕ) (c : Collection) (octets room : List ℕ) (small : Octets octets)
    (fit : (applies (sealed_number2 limits s now (header_of octets)) ≡ true → ⊥) → FitPart (sealing_part limits s))
    (none : (a : FragmentAnswer) (next : State) (kept : Collection) (after : List ℕ) →
    FragmentOutcome limits s now c octets room a next kept after → ⊥) where
  -- past 1 and 2 it is number 10, or there is a piece
  by-opening : {P : Type 0} → Fragment octets → (applies (sealed_number2 limits s now (header_of octets)) ≡ true → ⊥) →
      (UnopenedFragment (sealing_part limits s) octets room → P) →
      ((x : List ℕ) → OpensFragmentInto (sealing_part limits s) octets room x → P) → P
  by-opening f no-2 x y =
      ⊎_elim x (λ h. y h.0 h.1) (unopened-fragment-or-opens (sealing_part limits s) octets room (fit no-2) small f)

  no-waiting : FirstTurn (judging_rows limits s now c octets room) waits → ⊥
  no-waiting t =
      let p = past-total limits s now c octets room waits (omega arith) t in
      by-opening p.whole-layout p.no-2 p.no-10 (λ x h.
      none _ _ _ _ (is-waiting x t h))

  no-complete : FirstTurn (judging_rows limits s now c octets room) completes → ⊥
  no-complete t =
      let p = past-total limits s now c octets room completes (omega arith) t in
      by-opening p.whole-layout p.no-2 p.no-10 (λ x h.
      let o = whole (gathered_with limits s now c octets room x) in
      each-answered limits s now [] o (λ n next u.
      none _ _ _ _ (is-complete x t h u)))

  no-turn : (t : Turn) → FirstTurn (judging_rows limits s now c octets room) t → ⊥
  no-turn (refuses n) t = none _ _ _ _ (is-refused n t)
  no-turn passes_over t = none _ _ _ _ (is-passed-over t)
  no-turn waits t = no-waiting t
  no-turn completes t = no-complete t

  no_row : AnyHolds (judging_rows limits s now c octets room) → ⊥
  no_row = none-holds (judging_rows limits s now c octets room) no-turn

  -- THE THEOREM: the last row holds where no other does
  pub fragment-answered : ⊥
  fragment-answered =
      by-opening (laid_out octets (λ x. no_row (inl x))) (λ x. no_row (inr (inl x))) (λ u. no_row (inr (inr (inl u)))) (λ x h.
      bool_cases (is_complete (gathered_with limits s now c octets room x))
      (λ e. no_row (inr (inr (inr (inr (inr (inr (inr (inr (inl (record { piece = x; opens = h; meets = e })))))))))))
      (λ e. no_row (inr (inr (inr (inr (inr (inr (inr (inl (record { piece = x; opens = h; meets = e })))))))))))
