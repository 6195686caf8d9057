-- JOURNALED CALLS: with room they answer as the plain ones, and what is stored along a run of them reads back to its member.
use native.Mathlib.Omega.{arith}
use Prim.Native.Nat.{ℕ, suc, ◌≤◌}
use mathlib.Core.Path.{◌≡◌, refl, ap, sym, ◌∙◌, subst}
use mathlib.Core.Bool.{Bool}
use mathlib.Core.List.{List, [], ◌∷◌, ◌++◌}
use lib.ListN.{length, drop}
use lib.Seq.{take-append_seam}
use Rattle.state_keys.specs.Limits.{Limits}
use Rattle.state.specs.declared.State.{State}
use Rattle.rules_outcome.specs.Run.{Event}
use Rattle.state.specs.State.{new_state}
use Rattle.journal_rules.specs.Line.{line_of}
use Rattle.journal_rules.specs.Replay.{ReadBack}
use Rattle.journal_rules.specs.Write.{JournalAnswer, refused, Journals, turned-away, too_small, wrote}
use Rattle.journal_rules.specs.Claims.{journal_of, NotDone, TookEffect, none-taken, then-took, AsPlain}
use Rattle.journal_rules.specs.Claims.{JournaledRun, no_call, then-call}
use Rattle.journal_rules.proofs.ReadsBack.{reads-back}

module _ (limits : Limits) where
  -- WHERE THERE IS ROOM, answer and next member of a journaled call are those of the plain call
  pub journaled-same : (s : State) (x : Event) (room : List ℕ) (a : JournalAnswer) (next : State) (after : List ℕ) →
      length (line_of x) ≤ length room → Journals limits s x room a next after → AsPlain limits s x a next
  journaled-same s x room _ _ _ h (turned-away f l t n e o) =
      subst (λ (y : Event). AsPlain limits s y (refused (suc n)) s) (sym e) o
  journaled-same s x room _ _ _ h (too_small next d k) = absurd (omega arith)
  journaled-same s x room _ _ _ h (wrote next d k) = d

  -- "one too small gives "no room", and room and member stay as is", and so they do at a refusal
  pub stays-as-is : (s : State) (x : Event) (room : List ℕ) (a : JournalAnswer) (next : State) (after : List ℕ) → NotDone a →
      Journals limits s x room a next after → (next ≡ s) × (after ≡ room)
  stays-as-is s x room _ _ _ n (turned-away f l t k e o) = (refl, refl)
  stays-as-is s x room _ _ _ n (too_small next d k) = (refl, refl)
  stays-as-is s x room _ next _ h (wrote _ _ _) = elim h [ ]

  -- the steps that were done along a run, and what was stored is their journal
  record DoneAlong (s : State) (journal : List ℕ) (e : State) : Type 0 where
    steps : List Event
    took : TookEffect limits s steps e
    is : journal ≡ journal_of steps

  along : {s : State} {journal : List ℕ} {e : State} → JournaledRun limits s journal e → DoneAlong s journal e
  unfolding journal_of
  along (no_call s) = record { steps = []; took = none-taken s; is = refl }
  along (then-call s _ e x room _ journal _ h (turned-away f l t n q o) r) = along r
  along (then-call s _ e x room _ journal _ h (too_small next d k) r) = along r
  along (then-call s _ e x room _ journal _ h (wrote next d k) r) =
      let y = along r in
      record {
        steps = x ∷ y.steps;
        took = then-took s next e x y.steps h d y.took;
        is =
            ap (λ (t : List ℕ). t ++ journal) (take-append_seam (line_of x) (drop (length (line_of x)) room))
            ∙ ap (λ (t : List ℕ). line_of x ++ t) y.is;
      }

  -- along any sequence of the three calls from a new member, what was stored reads back to the member at the end
  pub journal-run : (profile : Bool) (journal : List ℕ) (e : State) → JournaledRun limits (new_state limits profile) journal e →
      ReadBack limits profile journal e 0
  journal-run profile journal e r =
      let y = along r in
      subst (λ (j : List ℕ). ReadBack limits profile j e 0) (sym y.is) (reads-back limits profile y.steps e y.took)
