use Rattle.std.proofs.Common.{◌≡◌, true, ◌+◌, ◌-◌, ◌≤◌, length, drop}
use Rattle.wire_attributes.specs.Layout.{attributes}
use Rattle.wire_readers.specs.inner.Values.{is_whole}
use Rattle.state_keys.specs.Limits.{limits}
use Rattle.unwrap_tree.specs.inner.Entries.{bag_keys}
use Rattle.unwrap_tree.proofs.Gathering.{Gathered}
use Rattle.unwrap_tree.proofs.entries.entries.Given as goal

abbrev pub invariant-loop-x : goal.invariant-loop-x
invariant-loop-x l =
    (length l.places ≡ limits.wrap_keys) × (l.at ≤ length l.s) × (is_whole (attributes l.place 0 (drop l.at l.s)) ≡ true)
    × (l.n + length (bag_keys l.meaning l.place (drop l.at l.s)) ≤ limits.wrap_keys)
    × Gathered l.fn.kd l.places l.n (bag_keys l.meaning l.place (drop l.at l.s)) (bag_keys l.meaning l.place l.s)

abbrev pub decreases-loop-x : goal.decreases-loop-x
decreases-loop-x l = length l.s - l.at
