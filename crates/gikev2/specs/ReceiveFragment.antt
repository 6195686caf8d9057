-- The call on a fragment (document 02, T-12): one outcome fixes the answer, the next member, the next collection and the room.
use Rattle.std.specs.Prelude.{ℕ, ◌≡◌, List}
use Rattle.state_keys.specs.Limits.{limits}
use Rattle.fragments.specs.declared.Collection.{Collection}
use Rattle.rules_fragments.specs.FragmentOutcome as rules
use Rattle.gikev2.specs.declared.Member.{Member}
use Rattle.gikev2.specs.declared.fragment.FragmentAnswer.{FragmentAnswer}
use Rattle.gikev2.specs.declared.fragment.FragmentAnswer.TheVariants.{Refused, PassedOver, Waiting, Complete}
use Rattle.gikev2.specs.Receive.{number_of, figure_of}

-- each case of the answer, with its number and its offset
abbrev pub fragment_said : FragmentAnswer → rules.FragmentAnswer
fragment_said (Refused a) = rules.refused (number_of a) (figure_of a)
fragment_said PassedOver = rules.passed_over
fragment_said Waiting = rules.waiting
fragment_said (Complete a) = rules.complete (number_of a) (figure_of a)

-- the member m receives the fragment `octets` at the tick `now`, with the collection c and `room` lent: a is the answer, `next` the next
-- member, d the next collection, `after` the room
abbrev pub ReceivesFragment : Member → Collection → ℕ → List ℕ → List ℕ → FragmentAnswer → Member → Collection → List ℕ → Type 0
ReceivesFragment m c now octets room a next d after =
    rules.FragmentOutcome limits m.state now c octets room (fragment_said a) next.state d after

-- two calls on the same gave the same: answer, member, collection, room
pub record SameReceived (a b : FragmentAnswer) (next other : Member) (c d : Collection) (left rest : List ℕ) : Type 0 where
  pub answer : a ≡ b
  pub member : next ≡ other
  pub collection : c ≡ d
  pub room : left ≡ rest
