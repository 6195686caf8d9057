-- ORDER DOES NOT MATTER (document 02, T-14), over octets.
use native.Mathlib.Omega.{arith}
use Prim.Native.Nat.{ℕ, ◌+◌, ◌/◌, ◌<◌, ◌≤◌}
use mathlib.Core.Path.{◌≡◌, refl, ap, sym, ◌∙◌, subst}
use mathlib.Core.Bool.{Bool, false}
use mathlib.Core.Logic.{◌↔◌}
use mathlib.Core.List.{List, [], ◌++◌}
use lib.ListN.{length, drop, length-append}
use lib.Seq.{take-append-le, drop-append_seam}
use Rattle.octets.specs.Numbers.{oct}
use Rattle.octets.specs.Walk.{be32, Spans}
use Rattle.octets.proofs.Numerals.{number_append}
use Rattle.octets.proofs.Local.{oct-append}
use Rattle.state_keys.specs.Limits.{Limits}
use Rattle.wire_frames.specs.Exchange.{reads_fresh}
use Rattle.wire_frames.specs.Frame.{none_next, Frame}
use Rattle.wire_frames.specs.Grammar.{IsPayload, IsFrame}
use Rattle.state.specs.declared.State.{State}
use Rattle.rules_refusals.specs.Reordered.{Reordered}
use Rattle.rules_outcome.specs.Outcome.{Outcome}
use Rattle.rules_outcome.proofs.Determined.{outcome-one}
use Rattle.rules_order.specs.Rearranged.{PayloadsRearranged, Rearranged}
use Rattle.rules_order.proofs.Payloads.{payloads-length, payloads-carried}
use Rattle.rules_order.proofs.Order.{order-kept}

-- a frame that is rearranged has a tree, and it is another order of the frame's
pub record FrameToo (profile : Bool) (f : Frame) (others : List ℕ) : Type 0 where
  pub tree : Frame
  pub is : IsFrame profile others tree
  pub order : Reordered f tree

module _ (profile : Bool) (h s t : List ℕ) (n : length h ≡ 28) (r : PayloadsRearranged (oct h 16) s t) where
  same_length : length (h ++ t) ≡ length (h ++ s)
  same_length = omega (arith, length-append h s, length-append h t, payloads-length r)

  same-oct : (i : ℕ) → i < 28 → oct (h ++ t) i ≡ oct (h ++ s) i
  same-oct i l = oct-append h t i (omega arith) ∙ sym (oct-append h s i (omega arith))

  same-be32 : (i : ℕ) → i + 4 ≤ 28 → be32 (h ++ t) i ≡ be32 (h ++ s) i
  same-be32 i l = number_append 4 i h t (omega arith) ∙ sym (number_append 4 i h s (omega arith))

  behind : (x : List ℕ) → drop 28 (h ++ x) ≡ x
  behind x = ap (λ (i : ℕ). drop i (h ++ x)) (sym n) ∙ drop-append_seam h x

  headed : (f : Frame) → IsFrame profile (h ++ s) f → FrameToo profile f (h ++ t)
  headed f i =
      let fresh = reads_fresh profile f.header.exchange in
      let first : oct (h ++ s) 16 ≡ oct h 16 = oct-append h s 16 (omega arith) in
      let d = subst (λ (x : List ℕ). Spans none_next (IsPayload fresh) (oct (h ++ s) 16) x f.payloads []) (behind s) i.payloads in
      let e = subst (λ (k : ℕ). Spans none_next (IsPayload fresh) k s f.payloads []) first d in
      let c = payloads-carried fresh r s f.payloads [] e refl refl in
      let other : oct (h ++ t) 16 ≡ oct h 16 = oct-append h t 16 (omega arith) in
      record {
        tree = record { header = f.header; payloads = c.payloads };
        is =
            record {
              least = omega (arith, same_length, i.least);
              most = omega (arith, same_length, i.most);
              size = same-be32 24 (omega arith) ∙ i.size ∙ sym same_length;
              major = ap (λ (x : ℕ). x / 16) (same-oct 17 (omega arith)) ∙ i.major;
              spi = take-append-le 16 h t (omega arith) ∙ sym (take-append-le 16 h s (omega arith)) ∙ i.spi;
              exchange = same-oct 18 (omega arith) ∙ i.exchange;
              message_id = same-be32 20 (omega arith) ∙ i.message_id;
              payloads =
                  subst (λ (x : List ℕ). Spans none_next (IsPayload fresh) (oct (h ++ t) 16) x c.payloads []) (sym (behind t))
                  (subst (λ (k : ℕ). Spans none_next (IsPayload fresh) k t c.payloads []) (sym other) c.spans);
            };
        order = record { header = refl; payloads = c.order };
      }

-- octets that are laid out as the tree `f`, rearranged, are laid out as a tree that differs from `f` in order alone
pub rearranged-reads : (profile : Bool) (octets others : List ℕ) (f : Frame) → IsFrame profile octets f → Rearranged octets others →
    FrameToo profile f others
rearranged-reads profile octets others f i r =
    subst (FrameToo profile f) (sym r.to)
    (headed profile r.header r.payloads r.moved r.size r.rearranged f
    (subst (λ (x : List ℕ). IsFrame profile x f) r.from i))

-- as many octets
pub rearranged-length : (octets others : List ℕ) → Rearranged octets others → length octets ≡ length others
rearranged-length octets others r =
    ap length r.from ∙ sym (same_length false r.header r.payloads r.moved r.size r.rearranged) ∙ ap length (sym r.to)

module _ (limits : Limits) (s : State) (now : ℕ) (lent octets others : List ℕ) (f : Frame) (i : IsFrame s.profile octets f)
    (r : Rearranged octets others) where
  -- "Take any registration or rekey not refused as number 1 and put its policies, bags, WRAP_KEY entries and the SA_KEY copies in any other
  -- order within what holds them, with the payloads keeping theirs, and hand both frames in with the same member, tick and lent key. If it
  -- was accepted, the member afterwards must be the same; if it was refused, the rearranged frame must be refused with the same number."
  pub rearranged-kept : (n : ℕ) (next : State) → Outcome limits s now lent octets n next ↔ Outcome limits s now lent others n next
  rearranged-kept n next =
      let too = rearranged-reads s.profile octets others f i r in
      order-kept limits s now lent too.order octets others i too.is n next

  -- the same in two outcomes: number and member are one
  pub rearranged-one : (n m : ℕ) (next after : State) → Outcome limits s now lent octets n next → Outcome limits s now lent others m after →
      (n ≡ m) × (next ≡ after)
  rearranged-one n m next after a b = outcome-one limits s now lent others n m next after ((rearranged-kept n next).0 a) b
