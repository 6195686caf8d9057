-- The promise of `receive_fragment` determines its answer, the next member, the next collection and the room.
use Prim.Native.Nat.{ℕ}
use native.Mathlib.Omega.{arith}
use mathlib.Core.Path.{◌≡◌, refl, ap}
use mathlib.Core.List.{List}
use Rattle.state_keys.specs.Limits.{limits}
use Rattle.fragments.specs.declared.Collection.{Collection}
use Rattle.rules_fragments.specs.FragmentOutcome as rules
use Rattle.rules_fragments.proofs.FragmentDetermined.{fragment-one}
use Rattle.gikev2.specs.declared.Member.{Member}
use Rattle.gikev2.specs.declared.fragment.FragmentAnswer.{FragmentAnswer}
use Rattle.gikev2.specs.declared.fragment.FragmentAnswer.TheVariants.{Refused, PassedOver, Waiting, Complete}
use Rattle.gikev2.specs.ReceiveFragment.{fragment_said, ReceivesFragment, SameReceived}
use Rattle.gikev2.proofs.ReceiveLaws.{answer-one}

-- the parts of what is said
abbrev kind : rules.FragmentAnswer → ℕ
kind (rules.refused n o) = 0
kind rules.passed_over = 1
kind rules.waiting = 2
kind (rules.complete n o) = 3

abbrev number : rules.FragmentAnswer → ℕ
number (rules.refused n o) = n
number rules.passed_over = 0
number rules.waiting = 0
number (rules.complete n o) = n

abbrev offset : rules.FragmentAnswer → ℕ
offset (rules.refused n o) = o
offset rules.passed_over = 0
offset rules.waiting = 0
offset (rules.complete n o) = o

-- what is said is said by one answer
pub said-one : (a b : FragmentAnswer) → fragment_said a ≡ fragment_said b → a ≡ b
said-one (Refused a) (Refused b) e = ap Refused (answer-one a b (ap number e) (ap offset e))
said-one (Refused a) PassedOver e = let k = ap kind e in absurd (omega (arith, k))
said-one (Refused a) Waiting e = let k = ap kind e in absurd (omega (arith, k))
said-one (Refused a) (Complete b) e = let k = ap kind e in absurd (omega (arith, k))
said-one PassedOver (Refused b) e = let k = ap kind e in absurd (omega (arith, k))
said-one PassedOver PassedOver e = refl
said-one PassedOver Waiting e = let k = ap kind e in absurd (omega (arith, k))
said-one PassedOver (Complete b) e = let k = ap kind e in absurd (omega (arith, k))
said-one Waiting (Refused b) e = let k = ap kind e in absurd (omega (arith, k))
said-one Waiting PassedOver e = let k = ap kind e in absurd (omega (arith, k))
said-one Waiting Waiting e = refl
said-one Waiting (Complete b) e = let k = ap kind e in absurd (omega (arith, k))
said-one (Complete a) (Refused b) e = let k = ap kind e in absurd (omega (arith, k))
said-one (Complete a) PassedOver e = let k = ap kind e in absurd (omega (arith, k))
said-one (Complete a) Waiting e = let k = ap kind e in absurd (omega (arith, k))
said-one (Complete a) (Complete b) e = ap Complete (answer-one a b (ap number e) (ap offset e))

-- "Every public call's promise determines its answer and the member or lent storage after it, also on refusal, for all inputs"
pub receives-fragment-one : (m : Member) (c : Collection) (now : ℕ) (octets room : List ℕ) (a b : FragmentAnswer) (next other : Member)
    (d f : Collection) (left rest : List ℕ) → ReceivesFragment m c now octets room a next d left →
    ReceivesFragment m c now octets room b other f rest → SameReceived a b next other d f left rest
receives-fragment-one m c now octets room a b next other d f left rest p q =
    let r = fragment-one limits m.state now c octets room (fragment_said a) (fragment_said b) next.state
    other.state d f left rest p q in
    record {
      answer = said-one a b r.answer;
      member = λ i. record { state = r.member i };
      collection = r.collection;
      room = r.room;
    }
