-- Numbers 2 and 3 by the header's fields, then those on the frame.
use native.Mathlib.Omega.{arith}
use Rattle.std.specs.Prelude.{Some, None}
use Prim.Native.Nat.{ℕ, ◌≤◌}
use mathlib.Core.Path.{◌≡◌, refl, ap, sym, ◌∙◌}
use mathlib.Core.Bool.{Bool, true, false, not, cond}
use mathlib.Core.List.{List, []}
use lib.ListN.{take}
use Rattle.octets.specs.Numbers.{oct}
use Rattle.octets.specs.Walk.{be32, whole, mapped}
use Rattle.octets.proofs.Inverse.{inverse-opened}
use Rattle.state_keys.specs.Limits.{Limits}
use Rattle.lists.proofs.Cases.{never, and_parts, or-none}
use Rattle.wire_frames.specs.Header.{first_payload, header_fits}
use Rattle.wire_frames.specs.inner.Answers.{header_read}
use Rattle.wire_frames.specs.Frame.{Frame, frame, frame_of, frame_payloads}
use Rattle.wire_frames.proofs.HeaderLaws.{header_is, header-not}
use Rattle.wire_frames.specs.Exchange.{exchange_of}
use Rattle.wire_frames.specs.declared.exchanges.Exchange.{Exchange}
use Rattle.wire_frames.specs.declared.IkeHeader.{IkeHeader}
use Rattle.wire_frames.proofs.FrameGrammar.{read-frame}
use Rattle.state_table.specs.Table.{table_formed}
use Rattle.state_table.proofs.Kept.{formed-count}
use Rattle.state.specs.declared.State.{State}
use Rattle.state.specs.State.{state_formed}
use Rattle.state.specs.Held.{held_formed}
use Rattle.rules_refusals.specs.Contents.{row_of}
use Rattle.rules_refusals.specs.Refusals.{one, applies, judged, number2, number3, on_frame, refusal}
use Rattle.rules_refusals.proofs.Clear.{no-clause}
use Rattle.check_judging.proofs.OrderLaws.{applying, passing}

header-fields : (s : List ℕ) (h : IkeHeader) → Some h ≡ header_read s → (h.exchange ≡ oct s 18) × (h.message_id ≡ be32 s 20)
header-fields s h e =
    let q = (header_is s h e).1 in (ap (λ (x : IkeHeader). x.exchange) q, ap (λ (x : IkeHeader). x.message_id) q)

module _ (limits : Limits) (state : State) (tick : ℕ) (lent s : List ℕ) (f : Frame) (q : frame state.profile s ≡ whole f []) (h : IkeHeader)
    (e : Some h ≡ header_read s) where
  exchange-is : h.exchange ≡ f.header.exchange
  exchange-is = (header-fields s h e).0 ∙ (read-frame state.profile s f [] q).exchange

  id-is : h.message_id ≡ f.header.message_id
  id-is = (header-fields s h e).1 ∙ (read-frame state.profile s f [] q).message_id

  two_is : applies (number2 limits state tick h.exchange (take 16 s)) ≡ applies (number2 limits state tick f.header.exchange f.header.spi)
  two_is = λ j. applies (number2 limits state tick (exchange-is j) ((read-frame state.profile s f [] q).spi j))

  number3-is : applies (number3 state h.exchange h.message_id) ≡ applies (number3 state f.header.exchange f.header.message_id)
  number3-is = λ j. applies (number3 state (exchange-is j) (id-is j))

  pub row_is : (r : Exchange) → r ≡ exchange_of h.exchange → row_of f ≡ r
  row_is r g = sym (g ∙ ap exchange_of exchange-is)

  pub at-2 : true ≡ applies (number2 limits state tick h.exchange (take 16 s)) → 2 ≡ refusal limits state tick lent f
  unfolding refusal
  at-2 g = applying (number2 limits state tick f.header.exchange f.header.spi) _ (g ∙ two_is)

  pub at-3 : false ≡ applies (number2 limits state tick h.exchange (take 16 s)) → true ≡ applies (number3 state h.exchange h.message_id) →
      3 ≡ refusal limits state tick lent f
  unfolding refusal
  at-3 g k =
      passing (number2 limits state tick f.header.exchange f.header.spi) _ 3 (g ∙ two_is)
      (applying (number3 state f.header.exchange f.header.message_id) _ (k ∙ number3-is))

  pub further : (r : ℕ) → false ≡ applies (number2 limits state tick h.exchange (take 16 s)) → false ≡ applies (number3 state h.exchange h.message_id)
      → r ≡ judged (on_frame limits state tick lent f) → r ≡ refusal limits state tick lent f
  unfolding refusal
  further r g k l =
      passing (number2 limits state tick f.header.exchange f.header.spi) _ r (g ∙ two_is)
      (passing (number3 state f.header.exchange f.header.message_id) _ r (k ∙ number3-is) l)

-- a member that keeps its list
pub few-sas : (limits : Limits) (state : State) (tick x : ℕ) (spi : List ℕ) → false ≡ applies (number2 limits state tick x spi)
    → state.table.count ≤ limits.sas
unfolding state_formed
few-sas limits state tick x spi e =
    let n = number2 limits state tick x spi in
    let b = no-clause n.of_member 2 (or-none (one n.of_frame) (one n.of_member) (sym e)).1 in
    let g = and_parts (table_formed limits state.table) (held_formed limits state.held) (is_true (state_formed limits state) b) in
    formed-count limits state.table g.0
  where
    is_true : (b : Bool) → not b ≡ false → b ≡ true
    is_true true h = refl
    is_true false h = sym h

-- a frame that is whole has a header
pub no_header : (profile : Bool) (s : List ℕ) (f : Frame) → frame profile s ≡ whole f [] → None ≡ header_read s → ⊥
unfolding frame
no_header profile s f q e =
    let r = inverse-opened 0 (header_fits s) (mapped (frame_of s) (frame_payloads profile s)) f [] q in
    never (header_fits s) r.0 (header-not s e)
