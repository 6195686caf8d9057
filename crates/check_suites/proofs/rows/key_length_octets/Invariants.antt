use Rattle.std.proofs.Common.{◌≡◌, true, ◌+◌, ◌*◌, ◌-◌, ◌≤◌, length, drop}
use Rattle.wire_attributes.specs.Layout.{attributes}
use Rattle.wire_readers.specs.inner.Values.{is_whole}
use Rattle.check_suites.specs.inner.Octets.{key_length_needs}
use Rattle.check_suites.proofs.rows.key_length_octets.Given as goal

abbrev pub invariant-loop-x : goal.invariant-loop-x
invariant-loop-x l =
    (l.at ≤ length l.a) × (is_whole (attributes l.place 0 (drop l.at l.a)) ≡ true) × (l.total ≤ 36 * l.at)
    × (key_length_needs l.id l.place l.a ≡ l.total + key_length_needs l.id l.place (drop l.at l.a))

abbrev pub decreases-loop-x : goal.decreases-loop-x
decreases-loop-x l = length l.a - l.at
