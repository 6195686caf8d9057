use Rattle.state.specs.Held.{keys_of}
use Rattle.unwrap_paths.proofs.Putting.{Putting}
use Rattle.unwrap_paths.proofs.held.path_before.Given as goal

abbrev pub invariant-loop-k : goal.invariant-loop-k
invariant-loop-k l = Putting (keys_of l.path) l.end l.k-items l.keys l.count l.met l.k-index
