-- A frame in another order gets the same number.
use Prim.Native.Nat.{ℕ, zero, suc, ◌<◌}
use native.Mathlib.Omega.{arith}
use mathlib.Core.Path.{◌≡◌, refl, sym, ◌∙◌, subst}
use mathlib.Core.Logic.{inl, inr, ⊎_elim}
use mathlib.Core.List.{List}
use Rattle.state_keys.specs.Limits.{Limits}
use Rattle.wire_frames.specs.Frame.{Frame}
use Rattle.state.specs.declared.State.{State}
use Rattle.rules_refusals.specs.Contents.{announced}
use Rattle.rules_refusals.specs.Refusals.{refusal}
use Rattle.rules_refusals.specs.Reordered.{Reordered}
use Rattle.rules_refusals.proofs.Contents.{announced-order}
use Rattle.rules_refusals.proofs.Order.{refusal-kept}
use Rattle.rules_chains.specs.Chain.{Root, CopyOpens}
use Rattle.rules_chains.specs.Refusals.{Announced, KeyConflict, of-entries, of-copies, CopiesConflict, KeyMissing}
use Rattle.rules_chains.proofs.AnyOrder.{entries-into, copies-into, copy-into}
use Rattle.rules_outcome.specs.Roots.{entries_of, announced_as, announced_keys}
use Rattle.rules_outcome.specs.Answer.{First, KeyConflictOf, KeyMissingOf, FrameAnswers}
use Rattle.rules_outcome.specs.Holding.{OverHeldOf}
use Rattle.rules_outcome.proofs.Members.{in_map, map-in}
use Rattle.rules_outcome.proofs.Answering.{judged-or-past, answers-clauses, answers-8, answers-9, answers-over, answers-0, lasts}
use Rattle.rules_outcome.proofs.AnyOrder.{order-among, reordered-back}
use Rattle.rules_outcome.proofs.AnyOrderOfFrame.{entries-among, copies-among}
use Rattle.rules_order.proofs.Holding.{over, over-held-kept}

-- 8 and 9 over the same roots and the same size
module _ (roots : List Root) (size : ℕ) {f g : Frame} (r : Reordered f g) where
  conflict-into : KeyConflict roots (entries_of f) size (announced_keys f) → KeyConflict roots (entries_of g) size (announced_keys g)
  unfolding announced_keys
  conflict-into (of-entries h) = of-entries (entries-into roots size (entries-among r) h)
  conflict-into (of-copies a i h) =
      let m = in_map (announced_as f) a (announced f) i in
      of-copies (announced_as g m.item)
      (map-in (announced_as g) (announced_as g m.item) (announced g) m.item
      (order-among (announced-order r) m.item m.stands) refl)
      (copies-into roots size (entries-among r) (announced_as f m.item) (announced_as g m.item) (copies-among r m.item) refl
      (subst (CopiesConflict roots (entries_of f) size) m.is h))

  missing-into : KeyMissing roots (entries_of f) size (announced_keys f) → KeyMissing roots (entries_of g) size (announced_keys g)
  unfolding announced_keys
  missing-into h =
      let m = in_map (announced_as f) h.sa (announced f) h.stands in
      let back = reordered-back r in
      record {
        sa = announced_as g m.item;
        stands =
            map-in (announced_as g) (announced_as g m.item) (announced g) m.item
            (order-among (announced-order r) m.item m.stands) refl;
        none = λ x o.
            h.none x
            (subst (λ (a : Announced). CopyOpens roots (entries_of f) size a.copies x) (sym m.is)
            (copy-into roots size (entries-among back) (copies-among back m.item) x o));
      }

-- 8, 9 and the last 7 of a frame and a member
module _ (limits : Limits) (s : State) (now : ℕ) (lent : List ℕ) {f g : Frame} (r : Reordered f g) where
  pub conflict-kept : KeyConflictOf limits s now lent f → KeyConflictOf limits s now lent g
  conflict-kept h = over limits s now lent r (λ l n. KeyConflict l (entries_of g) n (announced_keys g)) (conflict-into _ _ r h)

  pub missing-kept : KeyMissingOf limits s now lent f → KeyMissingOf limits s now lent g
  missing-kept h = over limits s now lent r (λ l n. KeyMissing l (entries_of g) n (announced_keys g)) (missing-into _ _ r h)

module _ (limits : Limits) (s : State) (now : ℕ) (lent : List ℕ) {f g : Frame} (r : Reordered f g) where
  no-conflict : (KeyConflictOf limits s now lent f → ⊥) → KeyConflictOf limits s now lent g → ⊥
  no-conflict p h = p (conflict-kept limits s now lent (reordered-back r) h)

  none-missing : (KeyMissingOf limits s now lent f → ⊥) → KeyMissingOf limits s now lent g → ⊥
  none-missing p h = p (missing-kept limits s now lent (reordered-back r) h)

  not-over : (OverHeldOf limits s now lent f → ⊥) → OverHeldOf limits s now lent g → ⊥
  not-over p h = p (over-held-kept limits s now lent (reordered-back r) h)

  lasts-kept : refusal limits s now lent g ≡ 0 → (n : ℕ) → First (lasts limits s now lent f) n → FrameAnswers limits s now lent g n
  lasts-kept z n (inl p) =
      subst (FrameAnswers limits s now lent g) (sym p.1) (answers-8 limits s now lent g z (conflict-kept limits s now lent r p.0))
  lasts-kept z n (inr (p, inl q)) =
      subst (FrameAnswers limits s now lent g) (sym q.1)
      (answers-9 limits s now lent g z (no-conflict p) (missing-kept limits s now lent r q.0))
  lasts-kept z n (inr (p, inr (q, inl o))) =
      subst (FrameAnswers limits s now lent g) (sym o.1)
      (answers-over limits s now lent g z (no-conflict p) (none-missing q) (over-held-kept limits s now lent r o.0))
  lasts-kept z n (inr (p, inr (q, inr (o, e)))) =
      subst (FrameAnswers limits s now lent g) (sym e)
      (answers-0 limits s now lent g z (no-conflict p) (none-missing q) (not-over o))

  clauses-kept : (n : ℕ) → 1 < n → refusal limits s now lent g ≡ n → FrameAnswers limits s now lent g n
  clauses-kept zero h e = absurd (omega arith)
  clauses-kept (suc n) h e = answers-clauses limits s now lent g n e

  pub number-kept : (n : ℕ) → FrameAnswers limits s now lent f n → FrameAnswers limits s now lent g n
  number-kept n p =
      let e = refusal-kept r limits s now lent in
      ⊎_elim (λ q. clauses-kept n q.0 (sym e ∙ q.1)) (λ q. lasts-kept (sym e ∙ q.0) n q.1)
      (judged-or-past limits s now lent f n p)
