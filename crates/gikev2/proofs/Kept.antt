-- A member that is as it must be stays so; what a member has made is blank in its unused places.
use Prim.Native.Nat.{ℕ}
use mathlib.Core.Path.{◌≡◌, refl, ap}
use mathlib.Core.Bool.{Bool, true}
use mathlib.Core.List.{List}
use Rattle.state_keys.specs.Limits.{limits}
use Rattle.state.specs.State.{state_formed, new_state}
use Rattle.state.specs.Blank.{StateBlank}
use Rattle.state.proofs.Kept.{new-state-formed, swept-state-formed, new-state-blank, swept-state-blank, swept-profile-kept}
use Rattle.state.proofs.Kept.{left-profile-kept}
use Rattle.rules_outcome.proofs.Runs.{outcome-formed, outcome-blank, outcome-profile}
use Rattle.gikev2.specs.declared.Member.{Member}
use Rattle.gikev2.specs.declared.call.Answer.{Answer}
use Rattle.gikev2.specs.Member.{member_with, swept_member, left_member}
use Rattle.gikev2.specs.Receive.{number_of, Receives}

pub new-formed : (profile : Bool) → state_formed limits (member_with profile).state ≡ true
unfolding member_with
new-formed profile = new-state-formed limits profile

pub new-blank : (profile : Bool) → StateBlank limits (member_with profile).state
unfolding member_with
new-blank profile = new-state-blank limits profile

pub swept-formed : (now : ℕ) (m : Member) → state_formed limits m.state ≡ true → state_formed limits (swept_member now m).state ≡ true
unfolding swept_member
swept-formed now m e = swept-state-formed limits now m.state e

pub swept-blank : (now : ℕ) (m : Member) → StateBlank limits m.state → StateBlank limits (swept_member now m).state
unfolding swept_member
swept-blank now m b = swept-state-blank limits now m.state b

module _ (m : Member) (now : ℕ) (lent octets : List ℕ) (a : Answer) (next : Member) (r : Receives m now lent octets a next) where
  pub received-formed : state_formed limits m.state ≡ true → state_formed limits next.state ≡ true
  received-formed e = outcome-formed limits m.state now lent octets (number_of a) next.state r.outcome e

  pub received-blank : StateBlank limits m.state → StateBlank limits next.state
  received-blank b = outcome-blank limits m.state now lent octets (number_of a) next.state r.outcome b

  pub received-profile : next.state.profile ≡ m.state.profile
  received-profile = outcome-profile limits m.state now lent octets (number_of a) next.state r.outcome

-- two members of one profile that leave are one: no octet of a key remains
pub left-same : (m n : Member) → m.state.profile ≡ n.state.profile → left_member m ≡ left_member n
unfolding left_member
left-same m n e = ap (λ (p : Bool). record { state = new_state limits p }) e

-- "Leaving gives the new member"; "Leaving keeps the profile" (document 02, T-11)
pub left-new : (m : Member) → left_member m ≡ member_with m.state.profile
unfolding left_member member_with
left-new m = refl

pub left-profile : (m : Member) → (left_member m).state.profile ≡ m.state.profile
unfolding left_member
left-profile m = left-profile-kept limits m.state

pub swept-profile : (now : ℕ) (m : Member) → (swept_member now m).state.profile ≡ m.state.profile
unfolding swept_member
swept-profile now m = swept-profile-kept limits now m.state
