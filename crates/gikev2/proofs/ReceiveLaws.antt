-- The answer to a frame: from what is judged of its tree to the outcome, and that the outcome is one.
use Rattle.wire_attributes.specs.declared.Broken.{Broken}
use Rattle.std.specs.Prelude.{Result, Ok}
use native.Mathlib.Omega.{arith}
use Prim.Native.Nat.{ℕ, zero, suc, ◌≤◌}
use mathlib.Core.Path.{◌≡◌, refl, ap, sym, subst, ◌∙◌}
use mathlib.Core.List.{List, [], ◌∷◌}
use mathlib.Core.Bool.{Bool}
use lib.ListN.{get_or}
use Rattle.octets.specs.Walk.{Reading, whole, broken}
use Rattle.state_keys.specs.Limits.{limits}
use Rattle.wire_attributes.specs.Answers.{broken_at, layout_of}
use Rattle.wire_attributes.proofs.Loops.{same-place}
use Rattle.wire_frames.specs.Frame.{Frame, frame, frame_layout, offset_of, figure}
use Rattle.wire_frames.proofs.FrameGrammar.{read-frame, frame-read}
use Rattle.state.specs.declared.State.{State}
use Rattle.rules_refusals.specs.Refusals.{refusal}
use Rattle.check_judging.specs.inner.Verdicts.{number_of_refusal}
use Rattle.check_judging.specs.declared.numbers.Refusal.{Refusal}
use Rattle.receive.proofs.DecidingLaws.{positive}
use Rattle.rules_outcome.specs.Outcome.{Judged, refused, Outcome}
use Rattle.rules_outcome.proofs.Answering.{answers-clauses}
use Rattle.rules_outcome.proofs.Demands.{one-of-the-numbers, one-exactly}
use Rattle.rules_outcome.proofs.Determined.{outcome-one}
use Rattle.rules_outcome.proofs.Readings.{outcome-broken, outcome-read}
use Rattle.gikev2.specs.declared.Member.{Member}
use Rattle.gikev2.specs.declared.call.Answer.{Answer}
use Rattle.gikev2.specs.declared.call.Answer.TheVariants as answer
use Rattle.gikev2.specs.Receive.{number_of, figure_of, Receives}

module _ (m : State) (now : ℕ) (lent : List ℕ) (f : Frame) where
  -- the numbers of a frame whose layout is whole are 0 and 2 to 9
  pub judged-numbered : (octets : List ℕ) → frame m.profile octets ≡ whole f [] → (n : ℕ) (next : State)
      → Judged limits m now lent f n next → (n ≤ 9) × (n ≡ 1 → ⊥)
  judged-numbered octets e n next j =
      let o = outcome-read limits m now lent octets f e n next j in
      let one : n ≡ 1 → Outcome limits m now lent octets 1 next =
      λ q. subst (λ (k : ℕ). Outcome limits m now lent octets k next) q o in (
        one-of-the-numbers limits m now lent octets n next o,
        λ q. ((one-exactly limits m now lent octets next).0 (one q)).0 f (read-frame m.profile octets f [] e),
      )

  -- one of numbers 2 to 7 applies
  pub judged-clauses : (n : ℕ) → n ≡ refusal limits m now lent f → (n ≡ 0 → ⊥) → Judged limits m now lent f n m
  judged-clauses zero e d = absurd (d refl)
  judged-clauses (suc n) e d = refused n (answers-clauses limits m now lent f n (sym e))

  pub judged-refused : (r : Refusal) → refusal limits m now lent f ≡ number_of_refusal r →
      Judged limits m now lent f (number_of_refusal r) m
  judged-refused r e = judged-clauses (number_of_refusal r) (sym e) (λ z. let p = positive r in omega arith)

-- ---- a layout is whole of a tree, or broken
module _ (profile : Bool) (s : List ℕ) where
  whole_by : (x : Reading Frame) → frame profile s ≡ x → layout_of x ≡ Ok tt → (f : Frame) × (frame profile s ≡ whole f [])
  whole_by (whole f rest) e l = (f, frame-read profile s f (read-frame profile s f rest e))
  whole_by (broken o) e l = cc

  broken-by : (x : Reading Frame) (o : ℕ) → frame profile s ≡ x → layout_of x ≡ broken_at o → frame profile s ≡ broken o
  broken-by (whole f rest) o e l = cc
  broken-by (broken p) o e l = e ∙ ap broken (same-place l)

  module _ (r : Result (Unit {0}) Broken) (e : r ≡ frame_layout profile s) where
    pub whole-tree : r ≡ Ok tt → (f : Frame) × (frame profile s ≡ whole f [])
    unfolding frame_layout
    whole-tree l = whole_by (frame profile s) refl (sym e ∙ l)

    pub no-tree : (o : ℕ) → r ≡ broken_at o → frame profile s ≡ broken o
    unfolding frame_layout
    no-tree o l = broken-by (frame profile s) o refl (sym e ∙ l)

-- ---- the figure: "All other numbers carry 0"
pub other-figure : (a : Answer) → (number_of a ≡ 1 → ⊥) → figure_of a ≡ 0
other-figure answer.Accepted n = refl
other-figure (answer.BrokenLayout o) n = absurd (n refl)
other-figure answer.NotForMember n = refl
other-figure answer.Replayed n = refl
other-figure answer.BadComposition n = refl
other-figure answer.Unsupported n = refl
other-figure answer.Unpaired n = refl
other-figure answer.OverLimit n = refl
other-figure answer.KeyConflict n = refl
other-figure answer.NoKey n = refl
other-figure answer.Unopened n = refl

figure-is : (profile : Bool) (s : List ℕ) (x : Reading Frame) → frame profile s ≡ x → figure profile s ≡ offset_of (layout_of x)
unfolding figure frame_layout
figure-is profile s x e = ap (λ (y : Reading Frame). offset_of (layout_of y)) e

-- ---- number and figure are one answer's
abbrev numbered : ℕ → ℕ → Answer
numbered n o =
    get_or
    (answer.Accepted ∷ answer.BrokenLayout o ∷ answer.NotForMember ∷ answer.Replayed ∷ answer.BadComposition ∷ answer.Unsupported ∷
    answer.Unpaired ∷ answer.OverLimit ∷ answer.KeyConflict ∷ answer.NoKey ∷ [])
    n answer.Unopened

numbered_of : (a : Answer) → numbered (number_of a) (figure_of a) ≡ a
numbered_of answer.Accepted = refl
numbered_of (answer.BrokenLayout o) = refl
numbered_of answer.NotForMember = refl
numbered_of answer.Replayed = refl
numbered_of answer.BadComposition = refl
numbered_of answer.Unsupported = refl
numbered_of answer.Unpaired = refl
numbered_of answer.OverLimit = refl
numbered_of answer.KeyConflict = refl
numbered_of answer.NoKey = refl
numbered_of answer.Unopened = refl

pub answer-one : (a b : Answer) → number_of a ≡ number_of b → figure_of a ≡ figure_of b → a ≡ b
answer-one a b n o = sym (numbered_of a) ∙ (λ i. numbered (n i) (o i)) ∙ numbered_of b

-- ---- the call's promise
module _ (m : Member) (now : ℕ) (lent octets : List ℕ) where
  pub receives-broken : (o : ℕ) → frame m.state.profile octets ≡ broken o → (a : Answer) (next : Member) → a ≡ answer.BrokenLayout o
      → next ≡ m →
      Receives m now lent octets a next
  receives-broken o e a next p g =
      let r : Receives m now lent octets (answer.BrokenLayout o) m =
      record { outcome = outcome-broken limits m.state now lent octets o e; offset = sym (figure-is m.state.profile octets (broken o) e) } in
      subst (λ (x : Member). Receives m now lent octets a x) (sym g) (subst (λ (x : Answer). Receives m now lent octets x m) (sym p) r)

  pub receives-tree : (f : Frame) → frame m.state.profile octets ≡ whole f [] → (a : Answer) (next : Member) →
      Judged limits m.state now lent f (number_of a) next.state → Receives m now lent octets a next
  receives-tree f e a next j =
      record {
        outcome = outcome-read limits m.state now lent octets f e (number_of a) next.state j;
        offset =
            other-figure a (judged-numbered m.state now lent f octets e (number_of a) next.state j).1
            ∙ sym (figure-is m.state.profile octets (whole f []) e);
      }

  -- numbers 2 to 9 refuse it
  pub receives-refused : (f : Frame) → frame m.state.profile octets ≡ whole f [] → (r : Refusal) →
      Judged limits m.state now lent f (number_of_refusal r) m.state → (b : Answer) → number_of b ≡ number_of_refusal r →
      (a : Answer) (next : Member) → a ≡ b → next ≡ m → Receives m now lent octets a next
  receives-refused f e r j b g a next p q =
      receives-tree f e a next (rw (p, g, q) j)

  -- "Every public call's promise determines its answer and the member .. after it, also on refusal, for all inputs"
  pub receives-one : (a b : Answer) (next after : Member) → Receives m now lent octets a next → Receives m now lent octets b after →
      (a ≡ b) × (next ≡ after)
  receives-one a b next after p q =
      let r = outcome-one limits m.state now lent octets (number_of a) (number_of b) next.state after.state
      p.outcome q.outcome in
      (answer-one a b r.0 (p.offset ∙ sym q.offset), λ i. record { state = r.1 i })
