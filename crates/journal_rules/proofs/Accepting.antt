-- What acceptance says of a frame's octets and of the lent key: the layout asks for 28 to 16,384 octets (number 1), and where the lent
-- key is read, it has 16, 24 or 32 (number 5).
use Prim.Native.Nat.{ℕ}
use mathlib.Core.Path.{◌≡◌, sym, ◌∙◌}
use mathlib.Core.Bool.{true, false, not, false≢true}
use mathlib.Core.List.{List}
use borrow.Author.Tests.{not-false, eqb-false}
use lib.ListN.{length}
use Rattle.ikev2_numbers.specs.Codes.{exchange_at}
use Rattle.octets.specs.Numbers.{oct}
use Rattle.state_keys.specs.Limits.{Limits}
use Rattle.state_keys.specs.Algorithms.{is_wrapping_size}
use Rattle.state_keys.proofs.Sizes.{wrapping-size, among-is}
use Rattle.wire_frames.specs.Frame.{Frame}
use Rattle.state.specs.declared.State.{State}
use Rattle.rules_refusals.specs.Contents.{row_of}
use Rattle.rules_refusals.specs.Number2.{number2_of_frame}
use Rattle.rules_refusals.specs.Number5.{number5_of_frame, lent_key_size}
use Rattle.rules_refusals.proofs.Clear.{no-clause}
use Rattle.rules_refusals.proofs.ExchangeRows.{by_row}
use Rattle.rules_outcome.specs.Outcome.{Outcome, by-tree}
use Rattle.rules_outcome.proofs.RunsClear.{Clear, taken}
use Rattle.journal_rules.specs.Claims.{KeyFits, AcceptedFrame}

module _ (limits : Limits) (s : State) (now : ℕ) (lent : List ℕ) where
  key-judged : (f : Frame) → Clear limits s now lent f → (row_of f).judges_lent_key ≡ true → KeyFits lent
  unfolding number5_of_frame lent_key_size
  key-judged f c r =
      let n = no-clause (number5_of_frame lent f) 5 c.no-5.of_frame in
      let q : not (is_wrapping_size (length lent)) ≡ false = rw r at n in
      among-is 16 24 32 (length lent) (sym (wrapping-size (length lent)) ∙ not-false (is_wrapping_size (length lent)) q)

  -- an exchange that number 2 admits and that is no GSA_REKEY judges the lent key
  judges : (f : Frame) → Clear limits s now lent f → (f.header.exchange ≡ 41 → ⊥) → (row_of f).judges_lent_key ≡ true
  judges f c no-rekey =
      let n = no-clause (number2_of_frame f.header.exchange) 0 c.no-2.of_frame in
      let q : (row_of f).admitted ≡ true = not-false (row_of f).admitted n in
      by_row ((row_of f).judges_lent_key ≡ true) f.header.exchange (λ e r. rw r) (λ e r. absurd (no-rekey e)) (λ e r. rw r)
      (λ r. absurd (false≢true (rw r at q)))

  -- WHAT ACCEPTANCE GIVES
  pub accepted-frame : (frame : List ℕ) (next : State) → Outcome limits s now lent frame 0 next → AcceptedFrame frame lent
  accepted-frame frame next (by-tree f e j) =
      let c = (taken limits s now lent frame f next e (by-tree f e j)).is-clear in
      record {
        least = e.least;
        most = e.most;
        key = λ r. key-judged f c (judges f c (λ x. absurd (eqb-false (oct frame exchange_at) 41 r (e.exchange ∙ x))));
      }
