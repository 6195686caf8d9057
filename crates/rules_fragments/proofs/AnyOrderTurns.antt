-- How far a fragment comes that opens and that 2 and 3 do not refuse, and that its outcome is then the one of that turn.
use native.Mathlib.Omega.{arith}
use Prim.Native.Nat.{ℕ, ◌≤◌}
use mathlib.Core.Path.{◌≡◌, refl, ap, sym, ◌∙◌, subst}
use mathlib.Core.Bool.{Bool, true, false, false≢true}
use mathlib.Core.Logic.{inl, inr}
use mathlib.Core.List.{List, []}
use Rattle.ikev2_numbers.specs.Codes.{most_octets}
use Rattle.state_keys.specs.Limits.{Limits}
use Rattle.wire_frames.specs.Header.{header_of}
use Rattle.wire_frames.specs.Frame.{figure}
use Rattle.state.specs.declared.State.{State}
use Rattle.rules_refusals.specs.Refusals.{applies, number3}
use Rattle.gcm.specs.Opening.{put_at_start}
use Rattle.rfc5282.specs.Number10.{OpensFragmentInto}
use Rattle.rfc5282.specs.OuterFragment.{IsFragment, total_in}
use Rattle.rfc5282.proofs.Number10Laws.{unopened-fragment-none}
use Rattle.fragments.specs.declared.Case.TheVariants.{PassedOver}
use Rattle.fragments.specs.declared.Collection.{Collection}
use Rattle.fragments.specs.Collection.{most_fragments, frame_size, collection_of, empty_collection, counted}
use Rattle.fragments.specs.Gathering.{case_of, is_complete, whole}
use Rattle.rules_outcome.specs.Outcome.{Outcome}
use Rattle.rules_sealed.specs.SealingKey.{sealing_part}
use Rattle.rules_sealed.specs.SealedOutcome.{sealed_number2}
use Rattle.rules_fragments.specs.FragmentOutcome.{FragmentAnswer, passed_over, waiting, complete, Turn, refuses, passes_over}
use Rattle.rules_fragments.specs.FragmentOutcome.{waits, completes, FirstTurn, names_in, gathered_with, OfPiece, judging_rows}
use Rattle.rules_fragments.specs.FragmentOutcome.{FragmentOutcome, is-refused, is-passed-over, is-waiting, is-complete}
use Rattle.rules_fragments.proofs.TurnLaws.{turn_one}

module _ (limits : Limits) (s : State) (now : ℕ) (c : Collection) (octets room : List ℕ) where
  -- what is known of a fragment that comes as far as the table of the collection, and of its piece
  pub record Opening (piece : List ℕ) : Type 0 where
    pub is-fragment : IsFragment octets
    pub not-two : applies (sealed_number2 limits s now (header_of octets)) ≡ false
    pub opens : OpensFragmentInto (sealing_part limits s) octets room piece
    pub one : (p : List ℕ) → OpensFragmentInto (sealing_part limits s) octets room p → piece ≡ p
    pub not_three : applies (number3 s (header_of octets).exchange (header_of octets).message_id) ≡ false
    pub few : total_in octets ≤ most_fragments

  module _ (piece : List ℕ) (o : Opening piece) where
    not_so : (b : Bool) → b ≡ false → b ≡ true → ⊥
    not_so b e f = false≢true (sym e ∙ f)

    no_other : (P : List ℕ → Type 0) → (P piece → ⊥) → OfPiece limits s now c octets room P → ⊥
    no_other P h q = h (subst P (sym (o.one q.piece q.opens)) q.meets)

    pub turn-passed : case_of (counted c) (names_in octets) ≡ PassedOver → FirstTurn (judging_rows limits s now c octets room) passes_over
    turn-passed e =
        let few = o.few in
        inr (
          λ h. h o.is-fragment,
          inr (
            not_so _ o.not-two,
            inr (
              λ h. unopened-fragment-none _ _ _ h piece o.opens,
              inr (not_so _ o.not_three, inr (λ h. omega arith, inl (e, refl))),
            ),
          ),
        )

    module _ (other : case_of (counted c) (names_in octets) ≡ PassedOver → ⊥)
        (small : frame_size (gathered_with limits s now c octets room piece).kept ≤ most_octets) where
      pub turn-waits : is_complete (gathered_with limits s now c octets room piece) ≡ false →
          FirstTurn (judging_rows limits s now c octets room) waits
      turn-waits e =
          let few = o.few in
          inr (
            λ h. h o.is-fragment,
            inr (
              not_so _ o.not-two,
              inr (
                λ h. unopened-fragment-none _ _ _ h piece o.opens,
                inr (
                  not_so _ o.not_three,
                  inr (
                    λ h. omega arith,
                    inr (
                      other,
                      inr (
                        no_other _ (λ h. omega arith),
                        inl (record { piece = piece; opens = o.opens; meets = e }, refl),
                      ),
                    ),
                  ),
                ),
              ),
            ),
          )

      pub turn-completes : is_complete (gathered_with limits s now c octets room piece) ≡ true →
          FirstTurn (judging_rows limits s now c octets room) completes
      turn-completes e =
          let few = o.few in
          inr (
            λ h. h o.is-fragment,
            inr (
              not_so _ o.not-two,
              inr (
                λ h. unopened-fragment-none _ _ _ h piece o.opens,
                inr (
                  not_so _ o.not_three,
                  inr (
                    λ h. omega arith,
                    inr (
                      other,
                      inr (
                        no_other _ (λ h. omega arith),
                        inr (
                          no_other _ (λ h. false≢true (sym h ∙ e)),
                          inl (record { piece = piece; opens = o.opens; meets = e }, refl),
                        ),
                      ),
                    ),
                  ),
                ),
              ),
            ),
          )

    -- ---- the outcome by its turn
    pub record PassedSo (a : FragmentAnswer) (next : State) (e : Collection) (after : List ℕ) : Type 0 where
      pub answer : a ≡ passed_over
      pub member_is : next ≡ s
      pub collection-is : e ≡ c
      pub room-is : after ≡ room

    pub record WaitsSo (a : FragmentAnswer) (next : State) (e : Collection) (after : List ℕ) : Type 0 where
      pub answer : a ≡ waiting
      pub member_is : next ≡ s
      pub collection-is : e ≡ collection_of (gathered_with limits s now c octets room piece)
      pub room-is : after ≡ room

    pub record CompleteSo (a : FragmentAnswer) (next : State) (e : Collection) (after : List ℕ) : Type 0 where
      pub number : ℕ
      pub answer : a ≡ complete number (figure s.profile (whole (gathered_with limits s now c octets room piece)))
      pub outcome : Outcome limits s now [] (whole (gathered_with limits s now c octets room piece)) number next
      pub collection-is : e ≡ empty_collection
      pub room-is : after ≡ put_at_start (whole (gathered_with limits s now c octets room piece)) room

    other-turn : {P : Type 0} (t u : Turn) → FirstTurn (judging_rows limits s now c octets room) t →
        FirstTurn (judging_rows limits s now c octets room) u → (t ≡ u → ⊥) → P
    other-turn t u f g h = absurd (h (turn_one (judging_rows limits s now c octets room) t u f g))

    pub passed-so : {a : FragmentAnswer} {next : State} {e : Collection} {after : List ℕ} →
        case_of (counted c) (names_in octets) ≡ PassedOver → FragmentOutcome limits s now c octets room a next e after →
        PassedSo a next e after
    passed-so h (is-refused n f) =
        other-turn (refuses n) passes_over f (turn-passed h) (λ e. let z : ◌≡◌ {A = ℕ} 0 1 = cc in omega arith)
    passed-so h (is-passed-over f) = record { answer = refl; member_is = refl; collection-is = refl; room-is = refl }
    passed-so h (is-waiting p f q) =
        other-turn waits passes_over f (turn-passed h) (λ e. let z : ◌≡◌ {A = ℕ} 0 1 = cc in omega arith)
    passed-so h (is-complete p f q k) =
        other-turn completes passes_over f (turn-passed h) (λ e. let z : ◌≡◌ {A = ℕ} 0 1 = cc in omega arith)

    module _ (other : case_of (counted c) (names_in octets) ≡ PassedOver → ⊥)
        (small : frame_size (gathered_with limits s now c octets room piece).kept ≤ most_octets) where
      pub waits-so : {a : FragmentAnswer} {next : State} {e : Collection} {after : List ℕ} →
          is_complete (gathered_with limits s now c octets room piece) ≡ false →
          FragmentOutcome limits s now c octets room a next e after → WaitsSo a next e after
      waits-so h (is-refused n f) =
          other-turn (refuses n) waits f (turn-waits other small h) (λ e. let z : ◌≡◌ {A = ℕ} 0 1 = cc in omega arith)
      waits-so h (is-passed-over f) =
          other-turn passes_over waits f (turn-waits other small h) (λ e. let z : ◌≡◌ {A = ℕ} 0 1 = cc in omega arith)
      waits-so h (is-waiting p f q) =
          record {
            answer = refl;
            member_is = refl;
            collection-is = ap (λ (y : List ℕ). collection_of (gathered_with limits s now c octets room y)) (sym (o.one p q));
            room-is = refl;
          }
      waits-so h (is-complete p f q k) =
          other-turn completes waits f (turn-waits other small h) (λ e. let z : ◌≡◌ {A = ℕ} 0 1 = cc in omega arith)

      pub complete-so : {a : FragmentAnswer} {next : State} {e : Collection} {after : List ℕ} →
          is_complete (gathered_with limits s now c octets room piece) ≡ true →
          FragmentOutcome limits s now c octets room a next e after → CompleteSo a next e after
      complete-so h (is-refused n f) =
          other-turn (refuses n) completes f (turn-completes other small h) (λ e. let z : ◌≡◌ {A = ℕ} 0 1 = cc in omega arith)
      complete-so h (is-passed-over f) =
          other-turn passes_over completes f (turn-completes other small h) (λ e. let z : ◌≡◌ {A = ℕ} 0 1 = cc in omega arith)
      complete-so h (is-waiting p f q) =
          other-turn waits completes f (turn-completes other small h) (λ e. let z : ◌≡◌ {A = ℕ} 0 1 = cc in omega arith)
      complete-so h (is-complete p {n} {next} f q k) =
          let g = sym (o.one p q) in
          record {
            number = n;
            answer = ap (λ (y : List ℕ). complete n (figure s.profile (whole (gathered_with limits s now c octets room y)))) g;
            outcome = subst (λ (y : List ℕ). Outcome limits s now [] (whole (gathered_with limits s now c octets room y)) n next) g k;
            collection-is = refl;
            room-is = ap (λ (y : List ℕ). put_at_start (whole (gathered_with limits s now c octets room y)) room) g;
          }
