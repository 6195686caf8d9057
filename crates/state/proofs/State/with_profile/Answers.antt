use Rattle.state.specs.declared.least.Least.TheVariants.{Id}
use Rattle.state.specs.State.{new_state}
use Rattle.state.proofs.State.with_profile.Goals as goal

pub returns : goal.returns
unfolding new_state
returns c = let p = c.new-table.ensures in let q = c.new-held.ensures in
    λ i. record { table = p i; held = q i; least = Id 0; profile = c.args.profile }
