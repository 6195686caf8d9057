-- THEOREM 3 SPEAKS OF SOMETHING: pieces can be handed in in any order, and the one that brings the last is answered as the frame is.
use Prim.Native.Nat.{ℕ}
use mathlib.Core.Path.{◌≡◌, ap, sym, ◌∙◌, subst}
use mathlib.Core.Bool.{Bool, true, false}
use mathlib.Core.List.{List, [], ◌∷◌}
use lib.ListN.{length}
use Rattle.state_keys.specs.Limits.{Limits}
use Rattle.lists.proofs.Cases.{bool_cases}
use Rattle.wire_frames.specs.Frame.{figure}
use Rattle.state.specs.declared.State.{State}
use Rattle.gcm.specs.Opening.{put_at_start}
use Rattle.fragments.specs.declared.Collection.{Collection}
use Rattle.fragments.specs.Collection.{collection_of, empty_collection, counted}
use Rattle.fragments.specs.Gathering.{gathered, is_complete}
use Rattle.rules_outcome.specs.Outcome.{Outcome}
use Rattle.rules_fragments.specs.FragmentOutcome.{passed_over, waiting, complete, names_in}
use Rattle.rules_fragments.specs.FragmentOutcome.{FragmentOutcome, is-passed-over, is-waiting, is-complete}
use Rattle.rules_fragments.specs.AnyOrder.{RekeyFrame, CutOf, OfOther, HandedIn, is_there, EachThere, sealed_piece, FitHandedIn, Handed}
use Rattle.rules_fragments.specs.AnyOrder.{none, one_more, AllFit, CanBeHanded, LastAnswers}
use Rattle.rules_fragments.proofs.AnyOrderTurns.{Opening, turn-passed, turn-waits, turn-completes}
use Rattle.rules_fragments.proofs.AnyOrderStep.{there-again, there-more, StandsAfter, waiting_of, came-each, each-came, none-stands}
use Rattle.rules_fragments.proofs.AnyOrderStep.{piece_handed, opening, copy_passed, copy-stands, other, gathered-is, small}
use Rattle.rules_fragments.proofs.AnyOrderStep.{last-whole, new-stands}
use Rattle.rules_fragments.proofs.AnyOrder.{standing}

module _ (limits : Limits) (s : State) (frame : List ℕ) (pieces : List (List ℕ)) (r : RekeyFrame frame) (cut : CutOf frame pieces) where
  module _ (l : List HandedIn) (d : Collection) (st : StandsAfter limits s frame pieces r cut d l) (x : HandedIn)
      (fit : FitHandedIn limits s frame pieces x) where
    abbrev octets : List ℕ
    octets = sealed_piece limits s frame pieces x

    abbrev piece : List ℕ
    piece = piece_handed limits s frame pieces r cut l d st x fit

    abbrev opens : Opening limits s x.tick d octets x.room piece
    opens = opening limits s frame pieces r cut l d st x fit

    copy-outcome : is_there x.number l ≡ true → FragmentOutcome limits s x.tick d octets x.room passed_over s d x.room
    copy-outcome h =
        is-passed-over
        (turn-passed limits s x.tick d octets x.room piece opens (copy_passed limits s frame pieces r cut l d st x fit h))

    module _ (h : is_there x.number l ≡ false) where
      complete-is : (b : Bool) → is_complete (waiting_of limits s frame pieces r cut (x ∷ l)) ≡ b →
          is_complete (gathered (counted d) (names_in octets) piece) ≡ b
      complete-is b i = ap is_complete (gathered-is limits s frame pieces r cut l d st x fit h) ∙ i

      waiting-outcome : is_complete (waiting_of limits s frame pieces r cut (x ∷ l)) ≡ false →
          FragmentOutcome limits s x.tick d octets x.room waiting s (collection_of (gathered (counted d) (names_in octets) piece))
          x.room
      waiting-outcome i =
          is-waiting piece
          (turn-waits limits s x.tick d octets x.room piece opens (other limits s frame pieces r cut l d st x fit h)
          (small limits s frame pieces r cut l d st x fit h) (complete-is false i))
          opens.opens

      last-outcome : is_complete (waiting_of limits s frame pieces r cut (x ∷ l)) ≡ true → (n : ℕ) (next : State) →
          Outcome limits s x.tick [] frame n next →
          FragmentOutcome limits s x.tick d octets x.room (complete n (figure s.profile frame)) next empty_collection
          (put_at_start frame x.room)
      last-outcome i n next o =
          let w = last-whole limits s frame pieces r cut l d st x fit h i in
          let t = turn-completes limits s x.tick d octets x.room piece opens (other limits s frame pieces r cut l d st x fit h)
          (small limits s frame pieces r cut l d st x fit h) (complete-is true i) in
          subst
          (λ (f : List ℕ).
          FragmentOutcome limits s x.tick d octets x.room (complete n (figure s.profile f)) next empty_collection
          (put_at_start f x.room)) w
          (is-complete piece t opens.opens (subst (λ (f : List ℕ). Outcome limits s x.tick [] f n next) (sym w) o))

  -- what waits after pieces that were handed in, with the collection
  record HandedTo (c : Collection) (l : List HandedIn) : Type 0 where
    left : Collection
    handed : Handed limits s frame pieces c l s left
    stands : StandsAfter limits s frame pieces r cut left l

  handed-to : (c : Collection) → OfOther frame (counted c) → (l : List HandedIn) → AllFit limits s frame pieces l →
      (EachThere (length pieces) l → ⊥) → HandedTo c l
  handed-to c o [] f lacks = record { left = c; handed = none; stands = none-stands limits s frame pieces r cut c o }
  handed-to c o (x ∷ l) f lacks =
      let p = handed-to c o l f.1 (λ h. lacks (λ i g k. there-more i x l (h i g k))) in
      bool_cases (is_there x.number l)
      (λ h.
      record {
        left = p.left;
        handed = one_more p.handed x f.0 (copy-outcome l p.left p.stands x f.0 h);
        stands = copy-stands limits s frame pieces r cut l p.left p.stands x f.0 h;
      })
      (λ h.
      bool_cases (is_complete (waiting_of limits s frame pieces r cut (x ∷ l)))
      (λ i. absurd (lacks (came-each limits s frame pieces r cut (x ∷ l) i)))
      (λ i.
      record {
        left = collection_of (gathered (counted p.left) (names_in (sealed_piece limits s frame pieces x))
            (piece_handed limits s frame pieces r cut l p.left p.stands x f.0));
        handed = one_more p.handed x f.0 (waiting-outcome l p.left p.stands x f.0 h i);
        stands = new-stands limits s frame pieces r cut l p.left p.stands x f.0 h i;
      }))

  pub can-be-handed : CanBeHanded limits s frame pieces
  can-be-handed c o l f lacks = let p = handed-to c o l f lacks in (p.left, p.handed)

  pub last-answers : LastAnswers limits s frame pieces
  last-answers c o l d before lacks x fit each n next out =
      let st = standing limits s frame pieces r cut c o before lacks in
      let i = each-came limits s frame pieces r cut (x ∷ l) each in
      bool_cases (is_there x.number l) (λ h. absurd (lacks (λ j f g. there-again j x l h (each j f g))))
      (λ h. last-outcome l d st.stands x fit h i n next out)
