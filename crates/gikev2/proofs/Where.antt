-- WHERE: what the figure of an answer says. Document 02, T-06: "Number 1 carries the offset of the innermost payload, policy, bag,
-- selector, transform or attribute whose layout broke first, or 0 for the header or a frame not yet opened. .. All other numbers carry 0."
-- That number and figure are one is `receives-one` (ReceiveLaws).
use Prim.Native.Nat.{ℕ, ◌<◌, ◌≤◌}
use mathlib.Core.Path.{◌≡◌, refl, sym, subst, ◌∙◌}
use mathlib.Core.Logic.{◌⊎◌, inl, inr}
use mathlib.Core.List.{List}
use lib.ListN.{length}
use Rattle.state_keys.specs.Limits.{limits}
use Rattle.wire_frames.specs.Frame.{Frame}
use Rattle.wire_frames.specs.Grammar.{IsFrame}
use Rattle.wire_frames.specs.Breaks.{BreaksFrame}
use Rattle.wire_frames.proofs.FrameBreaks.{frame-from, whole-or-broken, figure-broken, figure-lies}
use Rattle.rules_outcome.specs.Outcome.{Outcome}
use Rattle.rules_outcome.proofs.Demands.{one-exactly}
use Rattle.gikev2.specs.declared.Member.{Member}
use Rattle.gikev2.specs.declared.call.Answer.{Answer}
use Rattle.gikev2.specs.declared.call.Answer.TheVariants as answer
use Rattle.gikev2.specs.Receive.{number_of, figure_of, Receives}
use Rattle.gikev2.proofs.ReceiveLaws.{other-figure, receives-broken, receives-one}

module _ (m : Member) (now : ℕ) (lent octets : List ℕ) (a : Answer) (next : Member) (r : Receives m now lent octets a next) where
  -- "Number 1 carries the offset of the innermost .. whose layout broke first": on number 1 the octets break at the figure
  pub where-1 : number_of a ≡ 1 → BreaksFrame m.state.profile octets (figure_of a)
  where-1 n = go (whole-or-broken m.state.profile octets)
    where
      go : ((f : Frame) × IsFrame m.state.profile octets f) ⊎ ((o : ℕ) × BreaksFrame m.state.profile octets o)
          → BreaksFrame m.state.profile octets (figure_of a)
      go (inl x) =
          let o = subst (λ (k : ℕ). Outcome limits m.state now lent octets k next.state) n r.outcome in
          absurd (((one-exactly limits m.state now lent octets next.state).0 o).0 x.0 x.1)
      go (inr b) =
          subst (BreaksFrame m.state.profile octets) (sym (r.offset ∙ figure-broken m.state.profile octets b.0 b.1)) b.1

  -- octets that break at an offset give number 1 with that offset, and the member as it was
  pub breaks-1 : (o : ℕ) → BreaksFrame m.state.profile octets o → (a ≡ answer.BrokenLayout o) × (next ≡ m)
  breaks-1 o i =
      receives-one m now lent octets a (answer.BrokenLayout o) next m r
      (receives-broken m now lent octets o (frame-from m.state.profile octets o i) (answer.BrokenLayout o) m refl refl)

  -- "All other numbers carry 0"
  pub others-0 : (number_of a ≡ 1 → ⊥) → figure_of a ≡ 0
  others-0 n = other-figure a n

  -- the figure is 0, or at least 28 and below the frame's length
  pub figure-within : (figure_of a ≡ 0) ⊎ ((28 ≤ figure_of a) × (figure_of a < length octets))
  figure-within = subst (λ (o : ℕ). (o ≡ 0) ⊎ ((28 ≤ o) × (o < length octets))) (sym r.offset) (figure-lies m.state.profile octets)
