-- ORDER DOES NOT MATTER to `Member::receive` (document 02, T-14). Its promise is `Receives`.
use Prim.Native.Nat.{ℕ}
use mathlib.Core.Path.{◌≡◌, ap, sym, ◌∙◌}
use mathlib.Core.Bool.{Bool}
use mathlib.Core.List.{List}
use Rattle.state_keys.specs.Limits.{limits}
use Rattle.wire_attributes.specs.Answers.{layout_of}
use Rattle.wire_frames.specs.Frame.{Frame, frame_layout, offset_of, figure}
use Rattle.wire_frames.specs.Grammar.{IsFrame}
use Rattle.wire_frames.proofs.FrameGrammar.{frame-read}
use Rattle.rules_order.specs.Rearranged.{Rearranged}
use Rattle.rules_order.proofs.RearrangedKept.{rearranged-reads, rearranged-kept}
use Rattle.gikev2.specs.declared.Member.{Member}
use Rattle.gikev2.specs.declared.call.Answer.{Answer}
use Rattle.gikev2.specs.Receive.{number_of, Receives}
use Rattle.gikev2.proofs.ReceiveLaws.{receives-one}

-- a frame whose layout is whole has the figure 0
whole-figure : (profile : Bool) (octets : List ℕ) (f : Frame) → IsFrame profile octets f → figure profile octets ≡ 0
unfolding figure frame_layout
whole-figure profile octets f i = ap (λ r. offset_of (layout_of r)) (frame-read profile octets f i)

-- "hand both frames in with the same member, tick and lent key. If it was accepted, the member afterwards must be the same; if it was
-- refused, the rearranged frame must be refused with the same number": the answers are equal, and so are the members, octet for octet
pub received-rearranged : (m : Member) (now : ℕ) (lent octets others : List ℕ) (f : Frame) → IsFrame m.state.profile octets f →
    Rearranged octets others → (a b : Answer) (next after : Member) → Receives m now lent octets a next →
    Receives m now lent others b after →
    (a ≡ b) × (next ≡ after)
received-rearranged m now lent octets others f i r a b next after p q =
    let too = rearranged-reads m.state.profile octets others f i r in
    receives-one m now lent others a b next after
    (record {
      outcome = (rearranged-kept limits m.state now lent octets others f i r (number_of a) next.state).0 p.outcome;
      offset =
          p.offset ∙ whole-figure m.state.profile octets f i
          ∙ sym (whole-figure m.state.profile others too.tree too.is);
    }) q
