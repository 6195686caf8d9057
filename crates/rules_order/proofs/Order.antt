-- ORDER DOES NOT MATTER (document 02, T-14), over trees.
use Prim.Native.Nat.{ℕ}
use mathlib.Core.Path.{subst}
use mathlib.Core.Logic.{◌↔◌}
use mathlib.Core.List.{List}
use Rattle.state_keys.specs.Limits.{Limits}
use Rattle.wire_frames.specs.Frame.{Frame}
use Rattle.wire_frames.specs.Grammar.{IsFrame}
use Rattle.wire_frames.proofs.FrameGrammar.{one-tree}
use Rattle.state.specs.declared.State.{State}
use Rattle.rules_refusals.specs.Reordered.{Reordered}
use Rattle.rules_outcome.specs.Outcome.{Judged, refused, accepted, Outcome, no-layout, by-tree}
use Rattle.rules_outcome.proofs.RunsClear.{clear}
use Rattle.rules_outcome.proofs.AnyOrder.{reordered-back}
use Rattle.rules_order.proofs.Judging.{number-kept}
use Rattle.rules_order.proofs.Accepted.{after_kept}

module _ (limits : Limits) (s : State) (now : ℕ) (lent : List ℕ) where
  judged-kept : {f g : Frame} → Reordered f g → (octets others : List ℕ) → IsFrame s.profile octets f → IsFrame s.profile others g →
      (n : ℕ) (next : State) → Judged limits s now lent f n next → Judged limits s now lent g n next
  judged-kept r octets others i j _ _ (refused n a) = refused n (number-kept limits s now lent r _ a)
  judged-kept {f} {g} r octets others i j _ _ (accepted next a m) =
      let b = number-kept limits s now lent r 0 a in
      accepted next b
      (after_kept limits s now lent r (clear limits s now lent f a) (clear limits s now lent g b) octets others i j next m)

  one_way : {f g : Frame} → Reordered f g → (octets others : List ℕ) → IsFrame s.profile octets f → IsFrame s.profile others g →
      (n : ℕ) (next : State) → Outcome limits s now lent octets n next → Outcome limits s now lent others n next
  one_way {f} {g} r octets others i j _ _ (no-layout none) = absurd (none f i)
  one_way {f} {g} r octets others i j n next (by-tree h d k) =
      by-tree g j
      (judged-kept r octets others i j n next
      (subst (λ (x : Frame). Judged limits s now lent x n next) (one-tree s.profile octets h f d i) k))

  -- "If it was accepted, the member afterwards must be the same; if it was refused, the rearranged frame must be refused with the same
  -- number": two frames whose trees differ in order alone have the same outcomes
  pub order-kept : {f g : Frame} → Reordered f g → (octets others : List ℕ) → IsFrame s.profile octets f →
      IsFrame s.profile others g →
      (n : ℕ) (next : State) → Outcome limits s now lent octets n next ↔ Outcome limits s now lent others n next
  order-kept r octets others i j n next =
      (one_way r octets others i j n next, one_way (reordered-back r) others octets j i n next)
