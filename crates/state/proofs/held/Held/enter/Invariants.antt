use Prim.Native.Nat.{◌≤◌, ◌<◌}
use mathlib.Core.Path.{◌≡◌}
use lib.ListN.{length}
use Rattle.state_keys.specs.Limits.{limits}
use Rattle.lists.proofs.Place.{Placing}
use Rattle.state.specs.Held.{blank_key}
use Rattle.state.specs.inner.Entering.{id_before}
use Rattle.state.proofs.held.Held.enter.Given as goal

abbrev pub invariant-loop-i : goal.invariant-loop-i
invariant-loop-i l =
    (l.n < limits.held_keys) × (length l.self.keys ≡ limits.held_keys) × (l.i ≤ l.n) × Placing id_before limits.held_keys blank_key
    l.self.keys l.n l.initial.carried l.out l.carried l.placed l.i
