-- A reordered frame gets the same of numbers 2 to 7, each number by itself and the first that applies.
use Prim.Native.Nat.{ℕ}
use mathlib.Core.Path.{◌≡◌, ap}
use mathlib.Core.List.{List, [], ◌∷◌}
use Rattle.state_keys.specs.Limits.{Limits}
use Rattle.state.specs.declared.State.{State}
use Rattle.wire_frames.specs.Header.{Header}
use Rattle.wire_frames.specs.Frame.{Frame}
use Rattle.rules_refusals.specs.Refusals.{number2, number3, number4, number5, number6, number7, judged, refusal}
use Rattle.rules_refusals.specs.Reordered.{Reordered}
use Rattle.rules_refusals.proofs.OrderOf4.{number4-kept}
use Rattle.rules_refusals.proofs.OrderOf5.{number5-kept}
use Rattle.rules_refusals.proofs.OrderOf6.{number6-kept, number6-member-kept}
use Rattle.rules_refusals.proofs.OrderOf7.{number7-kept, number7-member-kept}

module _ {f g : Frame} (r : Reordered f g) (limits : Limits) (s : State) (now : ℕ) where
  pub number-2-kept : number2 limits s now f.header.exchange f.header.spi
      ≡ number2 limits s now g.header.exchange g.header.spi
  number-2-kept = ap (λ (h : Header). number2 limits s now h.exchange h.spi) r.header

  pub number-3-kept : number3 s f.header.exchange f.header.message_id ≡ number3 s g.header.exchange g.header.message_id
  number-3-kept = ap (λ (h : Header). number3 s h.exchange h.message_id) r.header

  pub number-4-kept : number4 f ≡ number4 g
  number-4-kept = λ i. record { number = 4; of_frame = number4-kept r i; of_member = [] }

  pub number-5-kept : (lent : List ℕ) → number5 lent f ≡ number5 lent g
  number-5-kept lent = λ i. record { number = 5; of_frame = number5-kept r lent i; of_member = [] }

  pub number-6-kept : number6 s now f ≡ number6 s now g
  number-6-kept = λ i. record { number = 6; of_frame = number6-kept r i; of_member = number6-member-kept r s now i }

  pub number-7-kept : number7 limits s now f ≡ number7 limits s now g
  number-7-kept = λ i. record { number = 7; of_frame = number7-kept r limits i; of_member = number7-member-kept r limits s now i }

  pub refusal-kept : (lent : List ℕ) → refusal limits s now lent f ≡ refusal limits s now lent g
  unfolding refusal
  refusal-kept lent = λ i.
      judged (number-2-kept i ∷ number-3-kept i ∷ number-4-kept i ∷ number-5-kept lent i ∷ number-6-kept i ∷ number-7-kept i ∷ [])
