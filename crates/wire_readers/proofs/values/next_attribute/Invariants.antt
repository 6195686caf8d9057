use Rattle.std.proofs.Common.{length, ◌-◌, ◌≡◌, true, ◌≤◌, drop}
use Rattle.wire_attributes.specs.Layout.{attributes}
use Rattle.wire_readers.specs.inner.Values.{is_whole, values_in, places_in}
use Rattle.wire_readers.proofs.values.next_attribute.Given as goal

-- no attribute passed means what is looked for
abbrev pub invariant-loop-at : goal.invariant-loop-at
invariant-loop-at l =
    (l.from ≤ l.at) × (l.at ≤ length l.s) × (is_whole (attributes l.place 0 (drop l.at l.s)) ≡ true)
    × (values_in l.fn.m l.place (drop l.from l.s) ≡ values_in l.fn.m l.place (drop l.at l.s))
    × (places_in l.fn.m l.place l.s l.from ≡ places_in l.fn.m l.place l.s l.at)

abbrev pub decreases-loop-at : goal.decreases-loop-at
decreases-loop-at l = length l.s - l.at
