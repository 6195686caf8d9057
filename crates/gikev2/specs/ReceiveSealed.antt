-- The call on a sealed frame (document 02, T-05): one outcome fixes the answer with its figure, the next member and the room.
use Rattle.std.specs.Prelude.{ℕ, List}
use Rattle.state_keys.specs.Limits.{limits}
use Rattle.rules_sealed.specs.SealedOutcome.{SealedOutcome}
use Rattle.gikev2.specs.declared.Member.{Member}
use Rattle.gikev2.specs.declared.call.Answer.{Answer}
use Rattle.gikev2.specs.Receive.{number_of, figure_of}

-- the member m receives the sealed `octets` at the tick `now` with `room` lent: a is the answer, `next` the next member, `after` the room
abbrev pub ReceivesSealed : Member → ℕ → List ℕ → List ℕ → Answer → Member → List ℕ → Type 0
ReceivesSealed m now octets room a next after =
    SealedOutcome limits m.state now octets room (number_of a) (figure_of a) next.state after
