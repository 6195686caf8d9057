-- The numbers of a sealed frame in judging order, and number 2 of other exchanges, computed.
use Prim.Native.Nat.{ℕ}
use mathlib.Core.Path.{◌≡◌, refl}
use mathlib.Core.Bool.{true}
use mathlib.Core.List.{List, [], ◌∷◌}
use Rattle.state_keys.specs.Limits.{limits}
use Rattle.state.specs.declared.State.{State}
use Rattle.rules_refusals.specs.Refusals.{one, applies}
use Rattle.rules_outcome.specs.Answer.{RefusalCase}
use Rattle.rules_sealed.specs.SealedOutcome.{sealed_number2}
use Rattle.rules_sealed.specs.SealedOrder.{sealed_order}

abbrev numbers_of : List RefusalCase → List ℕ
numbers_of [] = []
numbers_of (c ∷ l) = c.number ∷ numbers_of l

-- outer 1, 2, 10; then those of what was opened, the 7 of T-11 last
pub order_is : (s : State) (now : ℕ) (octets room : List ℕ) →
    numbers_of (sealed_order limits s now octets room) ≡ 1 ∷ 2 ∷ 10 ∷ 1 ∷ 2 ∷ 3 ∷ 4 ∷ 5 ∷ 6 ∷ 7 ∷ 8 ∷ 9 ∷ 7 ∷ []
order_is s now octets room = refl

-- GSA_AUTH, GSA_REGISTRATION and GSA_INBAND_REKEY are 2, whatever the member
pub others-2 : (s : State) (now id : ℕ) (spi : List ℕ) →
    (applies (sealed_number2 limits s now (record { spi = spi; exchange = 39; message_id = id })) ≡ true)
    × (applies (sealed_number2 limits s now (record { spi = spi; exchange = 40; message_id = id })) ≡ true)
    × (applies (sealed_number2 limits s now (record { spi = spi; exchange = 42; message_id = id })) ≡ true)
unfolding one
others-2 s now id spi = (refl, refl, refl)
