use mathlib.Core.Path.{ap}
use Rattle.state.specs.declared.State.{State}
use Rattle.gikev2.specs.Member.{swept_member}
use Rattle.gikev2.proofs.Member.sweep.Goals as goal

pub returns : goal.returns
unfolding swept_member
returns c = ap (λ (s : State). record { state = s }) c.sweep-state.ensures
