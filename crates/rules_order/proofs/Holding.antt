-- A frame in another order leaves the same held list, or one that is over its limit as well.
use Prim.Native.Nat.{ℕ}
use mathlib.Core.Path.{ap, subst}
use mathlib.Core.Bool.{Bool, true, false}
use mathlib.Core.List.{List}
use Rattle.state_keys.specs.Limits.{Limits}
use Rattle.wire_frames.specs.Frame.{Frame}
use Rattle.state.specs.declared.State.{State}
use Rattle.state.specs.declared.held.Held.{Held}
use Rattle.rules_refusals.specs.Contents.{row_of}
use Rattle.rules_refusals.specs.Reordered.{Reordered}
use Rattle.rules_refusals.proofs.OrderOf4.{row_kept}
use Rattle.rules_chains.specs.Chain.{Root}
use Rattle.rules_chains.proofs.AnyOrder.{path-kept, keys_kept}
use Rattle.rules_outcome.specs.Roots.{roots_of, entries_of, wrapping_size}
use Rattle.rules_outcome.specs.Holding.{new_rekey, rekey_copies, held_before, HoldsPath, HeldNext, HeldAfterwards, OverHeldOf}
use Rattle.rules_outcome.proofs.AnyOrder.{reordered-back}
use Rattle.rules_outcome.proofs.AnyOrderOfFrame.{entries-among, rekey-copies-among, new-rekey-kept, roots_kept, size-kept}

-- ---- over the same roots and the same size
module _ (roots : List Root) (size : ℕ) (limits : Limits) {f g : Frame} (r : Reordered f g) (old h : Held) where
  holds_kept : HoldsPath roots (entries_of f) size limits (rekey_copies f) old h →
      HoldsPath roots (entries_of g) size limits (rekey_copies g) old h
  holds_kept p =
      let into = entries-among r in
      let back = entries-among (reordered-back r) in
      record {
        ids = p.ids;
        end = p.end;
        path =
            path-kept roots size into back (rekey-copies-among r) (rekey-copies-among (reordered-back r)) p.ids p.end p.path;
        keys = p.keys;
        are = keys_kept roots size into back p.ids p.keys p.are;
        is = p.is;
      }

  next-kept : (b : Bool) → HeldNext roots (entries_of f) size limits b (rekey_copies f) old h →
      HeldNext roots (entries_of g) size limits b (rekey_copies g) old h
  next-kept true p = holds_kept p
  next-kept false e = e

-- ---- of a frame and a member
module _ (limits : Limits) (s : State) (now : ℕ) (lent : List ℕ) {f g : Frame} (r : Reordered f g) where
  -- what holds of the roots and the size of one frame holds of those of the other
  pub over : (P : List Root → ℕ → Type 0) → P (roots_of limits s now lent f) (wrapping_size limits s now lent f) →
      P (roots_of limits s now lent g) (wrapping_size limits s now lent g)
  over P p =
      subst (λ (l : List Root). P l (wrapping_size limits s now lent g)) (roots_kept r limits s now lent)
      (subst (P (roots_of limits s now lent f)) (size-kept r limits s now lent) p)

  abbrev Next : Held → Bool → Bool → Type 0
  Next h b registers =
      HeldNext (roots_of limits s now lent g) (entries_of g) (wrapping_size limits s now lent g) limits b (rekey_copies g)
      (held_before limits registers s.held) h

  pub held_kept : (h : Held) → HeldAfterwards limits s now lent f h → HeldAfterwards limits s now lent g h
  held_kept h p =
      subst (λ (x : Bool). Next h (new_rekey g) x) (ap (λ x. x.registers) (row_kept r))
      (subst (λ (b : Bool). Next h b (row_of f).registers) (new-rekey-kept r)
      (next-kept (roots_of limits s now lent g) (wrapping_size limits s now lent g) limits r
      (held_before limits (row_of f).registers s.held) h
      (new_rekey f)
      (over
      (λ l n. HeldNext l (entries_of f) n limits (new_rekey f) (rekey_copies f) (held_before limits (row_of f).registers s.held) h) p)))

  pub over-held-kept : OverHeldOf limits s now lent f → OverHeldOf limits s now lent g
  over-held-kept o = record { list = o.list; leaves = held_kept o.list o.leaves; over = o.over }
