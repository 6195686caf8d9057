-- One piece more, handed in to the member whose collection holds the pieces that came: what becomes of it, before its outcome is asked for.
use native.Mathlib.Omega.{arith}
use Prim.Native.Nat.{ℕ, ◌+◌, ◌-◌, ◌≤◌}
use mathlib.Core.Path.{◌≡◌, refl, ap, sym, ◌∙◌, subst}
use mathlib.Core.Bool.{Bool, true, false, ◌||◌}
use mathlib.Core.Logic.{inl, inr, ⊎_elim}
use mathlib.Core.List.{List, [], ◌∷◌, map, flat_map}
use lib.Dec.{eqb}
use lib.ListN.{length, get_or}
use borrow.Author.Tests.{eqb-true}
use Rattle.ikev2_numbers.specs.Codes.{most_octets}
use Rattle.state_keys.specs.Limits.{Limits}
use Rattle.lists.specs.Lists.{any}
use Rattle.lists.proofs.Cases.{bool_cases}
use Rattle.wire_frames.specs.Header.{Header, header_of}
use Rattle.state.specs.declared.State.{State}
use Rattle.rules_refusals.specs.Refusals.{applies, number3}
use Rattle.rfc5282.specs.OuterFragment.{number_in}
use Rattle.fragments.specs.declared.Case.TheVariants.{PassedOver}
use Rattle.fragments.specs.declared.Collection.{Collection}
use Rattle.fragments.specs.Collection.{Waiting, frame_size, collection_of, counted}
use Rattle.fragments.specs.Gathering.{case_of, gathered, is_complete, whole}
use Rattle.fragments.specs.inner.FitWaiting.{FitWaiting, FitNames}
use Rattle.fragments.proofs.FitLaws.{counted-made}
use Rattle.fragments.proofs.AnyOrderPieces.{came}
use Rattle.fragments.proofs.AnyOrderLaws.{OneOf, complete-each, each-complete, waiting-octets}
use Rattle.fragments.proofs.AnyOrderSteps.{Stands, other-anew, step-copy, step-new, step-gathered, step-stands}
use Rattle.rules_sealed.specs.SealedOutcome.{sealed_number2}
use Rattle.rules_fragments.specs.FragmentOutcome.{names_in}
use Rattle.rules_fragments.specs.AnyOrder.{RekeyFrame, CutOf, OfOther, HandedIn, is_there, EachThere, sealed_piece, FitHandedIn}
use Rattle.rules_fragments.proofs.AnyOrderNames.{lead_of, piece_of, opens-into, opens_one, is-fragment, header_is, number_is, total-is}
use Rattle.rules_fragments.proofs.AnyOrderNames.{one_of, fit-names}
use Rattle.rules_fragments.proofs.AnyOrderTurns.{Opening}
use Rattle.rules_fragments.proofs.AnyOrderWhole.{waiting_after, cut-octets, whole-frame}

-- the numbers of what was handed in
abbrev pub numbers_of : List HandedIn → List ℕ
numbers_of l = map (λ (x : HandedIn). x.number) l

pub there-came : (i : ℕ) (l : List HandedIn) → is_there i l ≡ came (numbers_of l) i
unfolding any
there-came i [] = refl
there-came i (x ∷ l) = ap (λ (b : Bool). eqb i x.number || b) (there-came i l)

-- with a copy none more is there, and what is there stays
pub there-again : (i : ℕ) (x : HandedIn) (l : List HandedIn) → is_there x.number l ≡ true → is_there i (x ∷ l) ≡ true → is_there i l ≡ true
unfolding any
there-again i x l e f = bool_cases (eqb i x.number) (λ g. rw (eqb-true i x.number g) e) (λ g. rw g at f)

pub there-more : (i : ℕ) (x : HandedIn) (l : List HandedIn) → is_there i l ≡ true → is_there i (x ∷ l) ≡ true
unfolding any
there-more i x l e = bool_cases (eqb i x.number) (λ g. rw g) (λ g. rw g e)

module _ (limits : Limits) (s : State) (frame : List ℕ) (pieces : List (List ℕ)) (r : RekeyFrame frame) (cut : CutOf frame pieces) where
  abbrev pub StandsAfter : Collection → List HandedIn → Type 0
  StandsAfter d l = Stands (header_of frame).spi (header_of frame).message_id (lead_of frame) pieces (counted d) (numbers_of l)

  -- what waits after them
  abbrev pub waiting_of : List HandedIn → Waiting
  waiting_of l = waiting_after frame pieces r cut (numbers_of l)

  pub came-each : (l : List HandedIn) → is_complete (waiting_of l) ≡ true → EachThere (length pieces) l
  came-each l e i f g =
      there-came i l ∙ complete-each (header_of frame).spi (header_of frame).message_id (lead_of frame) pieces (numbers_of l) e i f g

  pub each-came : (l : List HandedIn) → EachThere (length pieces) l → is_complete (waiting_of l) ≡ true
  each-came l h =
      each-complete (header_of frame).spi (header_of frame).message_id (lead_of frame) pieces (numbers_of l)
      (λ i f g. sym (there-came i l) ∙ h i f g)

  -- before the first
  pub none-stands : (c : Collection) → OfOther frame (counted c) → StandsAfter c []
  none-stands c o = inl (refl, λ f q n. other-anew (counted c) f n (⊎_elim inl (λ h. inr (λ p. h (p.0 ∙ q.spis-are, p.1 ∙ q.id-is))) o))

  module _ (l : List HandedIn) (d : Collection) (st : StandsAfter d l) (x : HandedIn) (fit : FitHandedIn limits s frame pieces x) where
    abbrev octets : List ℕ
    octets = sealed_piece limits s frame pieces x

    abbrev pub piece_handed : List ℕ
    piece_handed = piece_of limits s frame pieces r cut x fit

    pub opening : Opening limits s x.tick d octets x.room piece_handed
    opening =
        let h = header_is limits s frame pieces r cut x fit in
        let t = total-is limits s frame pieces r cut x fit in
        let m = cut.most in
        record {
          is-fragment = is-fragment limits s frame pieces r cut x fit;
          not-two = ap (λ (k : Header). applies (sealed_number2 limits s x.tick k)) h ∙ fit.not-two;
          opens = opens-into limits s frame pieces r cut x fit;
          one = opens_one limits s frame pieces r cut x fit;
          not_three = ap (λ (k : Header). applies (number3 s k.exchange k.message_id)) h ∙ fit.not_three;
          few = omega arith;
        }

    names : FitNames (names_in octets)
    names = fit-names limits s frame pieces r cut x fit

    one : OneOf (header_of frame).spi (header_of frame).message_id (lead_of frame) pieces (names_in octets)
    one = one_of limits s frame pieces r cut x fit

    number : number_in octets ≡ x.number
    number = number_is limits s frame pieces r cut x fit

    came-at : (b : Bool) → is_there x.number l ≡ b → came (numbers_of l) (number_in octets) ≡ b
    came-at b h = ap (came (numbers_of l)) number ∙ sym (there-came x.number l) ∙ h

    -- a copy
    module _ (h : is_there x.number l ≡ true) where
      copied : (case_of (counted d) (names_in octets) ≡ PassedOver)
          × Stands (header_of frame).spi (header_of frame).message_id (lead_of frame) pieces (counted d) (number_in octets ∷ numbers_of l)
      copied =
          step-copy (header_of frame).spi (header_of frame).message_id (lead_of frame) pieces (counted d) (names_in octets) one names
          (numbers_of l) st (came-at true h)

      pub copy_passed : case_of (counted d) (names_in octets) ≡ PassedOver
      copy_passed = copied.0

      pub copy-stands : StandsAfter d (x ∷ l)
      copy-stands =
          subst (λ (k : ℕ). Stands (header_of frame).spi (header_of frame).message_id (lead_of frame) pieces (counted d) (k ∷ numbers_of l))
          number copied.1

    -- another
    module _ (h : is_there x.number l ≡ false) where
      pub other : case_of (counted d) (names_in octets) ≡ PassedOver → ⊥
      other =
          step-new (header_of frame).spi (header_of frame).message_id (lead_of frame) pieces (counted d) (names_in octets) one names
          (numbers_of l) st (came-at false h)

      pub gathered-is : gathered (counted d) (names_in octets) piece_handed ≡ waiting_of (x ∷ l)
      gathered-is =
          ap (λ (k : ℕ). gathered (counted d) (names_in octets) (get_or pieces (k - 1) [])) (sym number)
          ∙ step-gathered (header_of frame).spi (header_of frame).message_id (lead_of frame) pieces (counted d) (names_in octets) one names
          (numbers_of l) st (came-at false h)
          ∙ ap (λ (k : ℕ). waiting_after frame pieces r cut (k ∷ numbers_of l)) number

      pub small : frame_size (gathered (counted d) (names_in octets) piece_handed).kept ≤ most_octets
      small =
          let b = waiting-octets (header_of frame).spi (header_of frame).message_id (lead_of frame) pieces (numbers_of (x ∷ l)) in
          let k = cut-octets frame pieces r cut in
          let m = r.most in
          rw gathered-is (omega arith)

      -- the last makes the frame whole
      pub last-whole : is_complete (waiting_of (x ∷ l)) ≡ true → whole (gathered (counted d) (names_in octets) piece_handed) ≡ frame
      last-whole i =
          ap whole gathered-is
          ∙ whole-frame frame pieces r cut (numbers_of (x ∷ l))
          (complete-each (header_of frame).spi (header_of frame).message_id (lead_of frame) pieces (numbers_of (x ∷ l)) i)

      -- any but the last waits with the others
      module _ (i : is_complete (waiting_of (x ∷ l)) ≡ false) where
        new-fit : FitWaiting (waiting_of (x ∷ l))
        new-fit =
            let b : 28 + length (flat_map (λ (p : List ℕ). p) pieces) ≤ most_octets =
            let k = cut-octets frame pieces r cut in let m = r.most in omega arith in
            subst (λ (k : ℕ). FitWaiting (waiting_after frame pieces r cut (k ∷ numbers_of l))) number
            (step-stands (header_of frame).spi (header_of frame).message_id (lead_of frame) pieces (counted d) (names_in octets) one names b
            (numbers_of l) st (came-at false h)
            (ap (λ (k : ℕ). is_complete (waiting_after frame pieces r cut (k ∷ numbers_of l))) number ∙ i))

        pub new-stands : StandsAfter (collection_of (gathered (counted d) (names_in octets) piece_handed)) (x ∷ l)
        new-stands = inr (ap (λ (w : Waiting). counted (collection_of w)) gathered-is ∙ counted-made (waiting_of (x ∷ l)) new-fit, new-fit)
