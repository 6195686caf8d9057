-- What the code reads out of the facts of a frame is what the frame says of the member afterwards.
use Prim.Native.Nat.{ℕ}
use mathlib.Core.Path.{◌≡◌, ap, sym, subst, ◌∙◌}
use mathlib.Core.List.{List, []}
use lib.Dec.{ltb}
use Rattle.octets.specs.Walk.{be32}
use Rattle.wire_frames.specs.Frame.{Frame}
use Rattle.wire_frames.specs.declared.exchanges.Exchange.{Exchange}
use Rattle.wire_frames.proofs.FrameGrammar.{read-frame}
use Rattle.state.specs.declared.State.{State}
use Rattle.rules_refusals.specs.Contents.{row_of, announced, group_wides}
use Rattle.rules_refusals.specs.Fitness.{is_rekey}
use Rattle.rules_refusals.proofs.FlatMap.{any-count}
use Rattle.rules_outcome.specs.After.{delay_of, initial_message_id}
use Rattle.check_composition.specs.declared.PolicyFacts.{PolicyFacts}
use Rattle.check_composition.proofs.GivenLaws.{delay-given, initial-given}
use Rattle.check_judging.specs.declared.facts.Facts.{Facts}
use Rattle.apply.specs.declared.next.Said.{Said}
use Rattle.apply.specs.inner.Following.{Told}
use Rattle.receive.specs.inner.Passing.{Passed}
use Rattle.receive.specs.inner.Saying.{said_by}
use Rattle.receive.proofs.ClauseLaws.{wides-once, delays-once, rekeys-few, ids-once}
use Rattle.receive.proofs.BodyLaws.{of-frame, policies-are}

module _ (m : State) (now : ℕ) (lent s : List ℕ) (x : Facts) (f : Frame) (p : Passed m now lent s x f) where
  delay-is : delay_of f ≡ x.policies.delay
  unfolding delay_of
  delay-is =
      delay-given (group_wides f) (wides-once m now lent f p.clauses) (delays-once m now lent f p.clauses)
      ∙ sym (ap (λ (y : PolicyFacts). y.delay) (policies-are m now lent s x f p))

  initial-is : initial_message_id f ≡ x.policies.initial
  unfolding initial_message_id
  initial-is =
      initial-given (announced f) (rekeys-few m now lent f p.clauses) (ids-once m now lent f p.clauses)
      ∙ sym (ap (λ (y : PolicyFacts). y.initial) (policies-are m now lent s x f p))

  pub told : (row : Exchange) → row_of f ≡ row → (r : Said) → r ≡ said_by row (be32 s 20) x → Told s r f
  told row e r q =
      subst (λ (y : Said). Told s y f) (sym q)
      (let o = of-frame m now lent s x f p in
      record {
        delay = delay-is;
        rekey = any-count is_rekey (announced f)
            ∙ ap (ltb 0) (sym (ap (λ (y : PolicyFacts). y.rekeys) (policies-are m now lent s x f p)));
        initial = initial-is;
        least = ap (λ (y : Exchange). y.least) e;
        id = sym (read-frame m.profile s f [] p.whole_is).message_id;
        deletes = record { count = sym o.deletes; from = λ z. (o.delete (λ y. z (o.deletes ∙ y))).1 };
      })
