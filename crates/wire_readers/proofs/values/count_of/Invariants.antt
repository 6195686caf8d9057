use Rattle.std.proofs.Common.{◌≡◌, true, ◌+◌, ◌≤◌, length, drop, ◌-◌}
use Rattle.wire_attributes.specs.Layout.{attributes}
use Rattle.wire_readers.specs.inner.Values.{is_whole, values_in}
use Rattle.wire_readers.proofs.values.count_of.Given as goal

abbrev pub invariant-loop-a : goal.invariant-loop-a
invariant-loop-a l =
    (l.n ≤ l.at) × (l.at ≤ length l.s) × (is_whole (attributes l.place 0 (drop l.at l.s)) ≡ true)
    × (l.n + length (values_in l.m l.place (drop l.at l.s)) ≡ length (values_in l.m l.place l.s))

abbrev pub decreases-loop-a : goal.decreases-loop-a
decreases-loop-a l = length l.s - l.at
