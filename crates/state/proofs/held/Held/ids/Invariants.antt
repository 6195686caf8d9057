use Rattle.std.proofs.Common.{◌≡◌, length, take}
use Rattle.state_keys.specs.Limits.{limits}
use Rattle.state.specs.Held.{ids_of}
use Rattle.state.proofs.held.Held.ids.Given as goal

abbrev pub invariant-loop-i : goal.invariant-loop-i
invariant-loop-i l =
    (length l.self.keys ≡ limits.held_keys) × (length l.ids ≡ limits.held_keys) × (take l.i l.ids ≡ ids_of (take l.i l.self.keys))
