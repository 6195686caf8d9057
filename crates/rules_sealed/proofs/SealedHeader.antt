-- Past number 2 a sealed frame is a GSA_REKEY over a Rekey SA that stands at the tick, and what is opened has the same header: number 2
-- cannot apply again.
use Prim.Native.Nat.{ℕ}
use mathlib.Core.Path.{◌≡◌, refl, sym, ap₂, ◌∙◌}
use mathlib.Core.Bool.{Bool, true, false, ◌||◌}
use mathlib.Core.List.{List, [], ◌∷◌}
use borrow.Author.Tests.{eqb-true, not-false}
use lib.Dec.{eqb}
use Rattle.lists.proofs.Cases.{or-none}
use Rattle.state_keys.specs.Limits.{Limits}
use Rattle.wire_frames.specs.Header.{header_of}
use Rattle.wire_frames.specs.Frame.{Frame}
use Rattle.wire_frames.specs.Grammar.{IsFrame}
use Rattle.wire_frames.specs.Exchange.{rekey}
use Rattle.state.specs.declared.State.{State}
use Rattle.state.specs.State.{state_formed}
use Rattle.rules_refusals.specs.Contents.{row_of}
use Rattle.rules_refusals.specs.Number2.{number2_of_frame, number2_of_member}
use Rattle.rules_refusals.specs.Refusals.{one, applies, number2}
use Rattle.rules_refusals.proofs.Clear.{no-clause}
use Rattle.rfc5282.specs.Number10.{OpensInto}
use Rattle.rfc5282.proofs.OneLaws.{same-spis, same-exchange, same-message}
use Rattle.rules_outcome.specs.Run.{StandsAt}
use Rattle.rules_outcome.proofs.Rows.{rekeys}
use Rattle.rules_outcome.proofs.RunsClear.{None, none-applies}
use Rattle.rules_outcome.proofs.RunsLive.{passes_over}
use Rattle.rules_sealed.specs.SealedOutcome.{not_rekey, sealed_number2}

-- ---- what was opened has the header of the sealed frame but for next payload and length
module _ (profile : Bool) (part octets room o : List ℕ) (h : OpensInto part octets room o) (f : Frame)
    (e : IsFrame profile o f) where
  pub opened-exchange : f.header.exchange ≡ (header_of octets).exchange
  opened-exchange = sym e.exchange ∙ same-exchange part octets o h.opens

  pub opened-spi : f.header.spi ≡ (header_of octets).spi
  opened-spi = sym e.spi ∙ same-spis part octets o h.opens

  pub opened-message : f.header.message_id ≡ (header_of octets).message_id
  opened-message = sym e.message_id ∙ same-message part octets o h.opens

-- ---- past number 2
more-clauses : (b l m : Bool) → (l || m) ≡ true → ((b || l) || m) ≡ true
more-clauses true l m e = refl
more-clauses false l m e = e

module _ (limits : Limits) (s : State) (now : ℕ) (octets : List ℕ)
    (no-2 : applies (sealed_number2 limits s now (header_of octets)) ≡ true → ⊥) where
  abbrev exchange : ℕ
  exchange = (header_of octets).exchange

  abbrev spi : List ℕ
  spi = (header_of octets).spi

  none_2 : None (sealed_number2 limits s now (header_of octets))
  none_2 = none-applies (sealed_number2 limits s now (header_of octets)) no-2

  pub is-rekey : (header_of octets).exchange ≡ 41
  is-rekey =
      eqb-true exchange 41 (not-false (eqb exchange 41) (no-clause (not_rekey exchange ∷ number2_of_frame exchange) 0 none_2.of_frame))

  -- number 2 of an opened frame with this header does not apply
  passes : None (number2 limits s now exchange spi)
  unfolding one
  passes =
      record { of_frame = (or-none (not_rekey exchange) (one (number2_of_frame exchange)) none_2.of_frame).1; of_member = none_2.of_member }

  pub stands-over : StandsAt now (header_of octets).spi s
  stands-over = passes_over limits s now (record { header = header_of octets; payloads = [] }) passes (rekeys exchange is-rekey)

  pub is-formed : state_formed limits s ≡ true
  is-formed = not-false (state_formed limits s) (no-clause (number2_of_member limits s now exchange spi) 2 none_2.of_member)

  module _ (profile : Bool) (part room o : List ℕ) (h : OpensInto part octets room o) (f : Frame) (e : IsFrame profile o f) where
    pub opened-rekey : row_of f ≡ rekey
    opened-rekey = rekeys f.header.exchange (opened-exchange profile part octets room o h f e ∙ is-rekey)

    -- number 2 cannot apply again
    pub two-not-again : applies (number2 limits s now f.header.exchange f.header.spi) ≡ true → ⊥
    unfolding one
    two-not-again a =
        no-2 (more-clauses (not_rekey exchange) (one (number2_of_frame exchange)) (one (number2_of_member limits s now exchange spi))
        (sym (ap₂ (λ (x : ℕ) (y : List ℕ). applies (number2 limits s now x y)) (opened-exchange profile part octets room o h f e)
        (opened-spi profile part octets room o h f e)) ∙ a))
