use mathlib.Core.Path.{ap}
use Rattle.state.specs.declared.State.{State}
use Rattle.gikev2.specs.Member.{member_with}
use Rattle.gikev2.proofs.Member.with_profile.Goals as goal

pub returns : goal.returns
unfolding member_with
returns c = ap (λ (s : State). record { state = s }) c.with_profile-state.ensures
