-- THEOREM 3 OF T-12, IN ANY ORDER: the pieces of a rekey, handed in in any order and any of them any number of times, are answered as the
-- frame handed in whole, with the one that brings the last; until then each waits or is passed over, and member and room are unchanged.
use Prim.Native.Nat.{ℕ, ◌≤◌}
use mathlib.Core.Path.{◌≡◌, refl, ap, sym, ◌∙◌, subst}
use mathlib.Core.Bool.{Bool, true, false, false≢true}
use mathlib.Core.List.{List, [], ◌∷◌}
use lib.ListN.{length}
use Rattle.ikev2_numbers.specs.Codes.{most_octets}
use Rattle.state_keys.specs.Limits.{Limits}
use Rattle.lists.proofs.Cases.{bool_cases}
use Rattle.wire_frames.specs.Frame.{figure}
use Rattle.state.specs.declared.State.{State}
use Rattle.gcm.specs.Opening.{put_at_start}
use Rattle.fragments.specs.declared.Case.TheVariants.{PassedOver}
use Rattle.fragments.specs.declared.Collection.{Collection}
use Rattle.fragments.specs.Collection.{frame_size, counted}
use Rattle.fragments.specs.Gathering.{case_of, gathered, is_complete, whole}
use Rattle.rules_outcome.specs.Outcome.{Outcome}
use Rattle.rules_fragments.specs.FragmentOutcome.{FragmentAnswer, complete, names_in, FragmentOutcome}
use Rattle.rules_fragments.specs.AnyOrder.{RekeyFrame, CutOf, OfOther, HandedIn, is_there, EachThere, sealed_piece, FitHandedIn, Handed}
use Rattle.rules_fragments.specs.AnyOrder.{none, one_more, StillWaiting, WholeAnswered, InAnyOrder}
use Rattle.rules_fragments.proofs.AnyOrderTurns.{Opening, PassedSo, WaitsSo, CompleteSo, passed-so, waits-so, complete-so}
use Rattle.rules_fragments.proofs.AnyOrderStep.{there-again, there-more, StandsAfter, waiting_of, came-each, each-came, none-stands}
use Rattle.rules_fragments.proofs.AnyOrderStep.{piece_handed, opening, copy_passed, copy-stands, other, gathered-is, small}
use Rattle.rules_fragments.proofs.AnyOrderStep.{last-whole, new-stands}

module _ (limits : Limits) (s : State) (frame : List ℕ) (pieces : List (List ℕ)) (r : RekeyFrame frame) (cut : CutOf frame pieces) where
  -- ---- one piece more
  module _ (l : List HandedIn) (d : Collection) (st : StandsAfter limits s frame pieces r cut d l) (x : HandedIn)
      (fit : FitHandedIn limits s frame pieces x) (a : FragmentAnswer) (next : State) (e : Collection) (after : List ℕ)
      (out : FragmentOutcome limits s x.tick d (sealed_piece limits s frame pieces x) x.room a next e after) where
    abbrev octets : List ℕ
    octets = sealed_piece limits s frame pieces x

    abbrev piece : List ℕ
    piece = piece_handed limits s frame pieces r cut l d st x fit

    abbrev opens : Opening limits s x.tick d octets x.room piece
    opens = opening limits s frame pieces r cut l d st x fit

    -- a copy
    module _ (h : is_there x.number l ≡ true) where
      so-passed : PassedSo limits s x.tick d octets x.room piece opens a next e after
      so-passed = passed-so limits s x.tick d octets x.room piece opens (copy_passed limits s frame pieces r cut l d st x fit h) out

      copy-waiting : StillWaiting limits s frame pieces l x a next after
      copy-waiting = record { answer = rw h so-passed.answer; member_is = so-passed.member_is; room-is = so-passed.room-is }

      copy-stood : StandsAfter limits s frame pieces r cut e (x ∷ l)
      copy-stood =
          subst (λ (k : Collection). StandsAfter limits s frame pieces r cut k (x ∷ l)) (sym so-passed.collection-is)
          (copy-stands limits s frame pieces r cut l d st x fit h)

    -- another
    module _ (h : is_there x.number l ≡ false) where
      not-passed : case_of (counted d) (names_in octets) ≡ PassedOver → ⊥
      not-passed = other limits s frame pieces r cut l d st x fit h

      not-long : frame_size (gathered (counted d) (names_in octets) piece).kept ≤ most_octets
      not-long = small limits s frame pieces r cut l d st x fit h

      complete-is : (b : Bool) → is_complete (waiting_of limits s frame pieces r cut (x ∷ l)) ≡ b →
          is_complete (gathered (counted d) (names_in octets) piece) ≡ b
      complete-is b i = ap is_complete (gathered-is limits s frame pieces r cut l d st x fit h) ∙ i

      -- the last
      module _ (i : is_complete (waiting_of limits s frame pieces r cut (x ∷ l)) ≡ true) where
        so-complete : CompleteSo limits s x.tick d octets x.room piece opens a next e after
        so-complete = complete-so limits s x.tick d octets x.room piece opens not-passed not-long (complete-is true i) out

        whole_is : whole (gathered (counted d) (names_in octets) piece) ≡ frame
        whole_is = last-whole limits s frame pieces r cut l d st x fit h i

        last-answered : WholeAnswered limits s frame pieces x a next e after
        last-answered =
            record {
              number = so-complete.number;
              answer =
                  so-complete.answer
                  ∙ ap (λ (o : List ℕ). complete so-complete.number (figure s.profile o)) whole_is;
              outcome = subst (λ (o : List ℕ). Outcome limits s x.tick [] o so-complete.number next) whole_is so-complete.outcome;
              empties = so-complete.collection-is;
              room-is = so-complete.room-is ∙ ap (λ (o : List ℕ). put_at_start o x.room) whole_is;
            }

      -- not the last
      module _ (i : is_complete (waiting_of limits s frame pieces r cut (x ∷ l)) ≡ false) where
        so-waits : WaitsSo limits s x.tick d octets x.room piece opens a next e after
        so-waits = waits-so limits s x.tick d octets x.room piece opens not-passed not-long (complete-is false i) out

        new-waiting : StillWaiting limits s frame pieces l x a next after
        new-waiting = record { answer = rw h so-waits.answer; member_is = so-waits.member_is; room-is = so-waits.room-is }

        new-stood : StandsAfter limits s frame pieces r cut e (x ∷ l)
        new-stood =
            subst (λ (k : Collection). StandsAfter limits s frame pieces r cut k (x ∷ l)) (sym so-waits.collection-is)
            (new-stands limits s frame pieces r cut l d st x fit h i)

  -- ---- any of them
  pub record Standing (l : List HandedIn) (m : State) (d : Collection) : Type 0 where
    pub member_is : m ≡ s
    pub stands : StandsAfter limits s frame pieces r cut d l

  -- while one lacks the member is the one at the start, and what waits is the pieces that came
  pub standing : (c : Collection) → OfOther frame (counted c) → {l : List HandedIn} {m : State} {d : Collection} →
      Handed limits s frame pieces c l m d → (EachThere (length pieces) l → ⊥) → Standing l m d
  standing c o none lacks = record { member_is = refl; stands = none-stands limits s frame pieces r cut c o }
  standing c o (one_more {l} {m} {d} before x fit {a} {next} {e} {after} out) lacks =
      let st = standing c o before (λ h. lacks (λ i f g. there-more i x l (h i f g))) in
      let at = subst (λ (k : State). FragmentOutcome limits k x.tick d (sealed_piece limits s frame pieces x) x.room a next e after)
      st.member_is out in
      bool_cases (is_there x.number l)
      (λ h.
      record {
        member_is = (copy-waiting l d st.stands x fit a next e after at h).member_is;
        stands = copy-stood l d st.stands x fit a next e after at h;
      })
      (λ h.
      bool_cases (is_complete (waiting_of limits s frame pieces r cut (x ∷ l)))
      (λ i. absurd (lacks (came-each limits s frame pieces r cut (x ∷ l) i)))
      (λ i.
      record {
        member_is = (new-waiting l d st.stands x fit a next e after at h i).member_is;
        stands = new-stood l d st.stands x fit a next e after at h i;
      }))

  -- THEOREM 3
  pub in-any-order : InAnyOrder limits s frame pieces
  in-any-order c o l m d before lacks x fit a next e after out =
      let st = standing c o before lacks in
      let at = subst (λ (k : State). FragmentOutcome limits k x.tick d (sealed_piece limits s frame pieces x) x.room a next e after)
      st.member_is out in
      bool_cases (is_there x.number l)
      (λ h. (
        λ _. copy-waiting l d st.stands x fit a next e after at h,
        λ each. absurd (lacks (λ i f g. there-again i x l h (each i f g))),
      ))
      (λ h.
      bool_cases (is_complete (waiting_of limits s frame pieces r cut (x ∷ l)))
      (λ i. (
        λ lacking. absurd (lacking (came-each limits s frame pieces r cut (x ∷ l) i)),
        λ _. last-answered l d st.stands x fit a next e after at h i,
      ))
      (λ i. (
        λ _. new-waiting l d st.stands x fit a next e after at h i,
        λ each. absurd (false≢true (sym i ∙ each-came limits s frame pieces r cut (x ∷ l) each)),
      )))
