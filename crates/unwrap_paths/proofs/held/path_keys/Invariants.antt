use Rattle.std.proofs.Common.{◌≡◌, length}
use Rattle.state_keys.specs.Limits.{limits}
use Rattle.unwrap_paths.specs.inner.Holding.{held_at}
use Rattle.unwrap_paths.proofs.Keeping.{HeldSoFar}
use Rattle.unwrap_paths.proofs.held.path_keys.Given as goal

abbrev pub invariant-loop-i : goal.invariant-loop-i
invariant-loop-i l =
    (length l.keys ≡ limits.held_keys) × HeldSoFar (held_at l.links.ids l.reached) l.trail.places l.trail.count l.keys l.i
