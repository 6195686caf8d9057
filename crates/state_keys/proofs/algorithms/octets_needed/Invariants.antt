use mathlib.Core.Path.{◌≡◌}
use lib.ListN.{drop}
use Rattle.state_keys.specs.Algorithms.{algorithms, needed_in}
use Rattle.state_keys.proofs.algorithms.octets_needed.Given as goal

abbrev pub invariant-loop-r : goal.invariant-loop-r
invariant-loop-r l = needed_in l.kind l.id l.bits algorithms ≡ needed_in l.kind l.id l.bits (drop l.r-index algorithms)
