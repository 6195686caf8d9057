use Rattle.std.proofs.Common.{length, ◌-◌, ◌≡◌, ◌+◌, drop, ◌≤◌}
use Rattle.wire_attributes.specs.Layout.{attributes}
use Rattle.wire_attributes.specs.Answers.{layout_of}
use Rattle.wire_attributes.proofs.are_attributes.Given as goal

abbrev pub invariant-loop-at : goal.invariant-loop-at
invariant-loop-at l = record {
  inside : l.at ≤ length l.s;
  so_far : layout_of (attributes l.place l.base l.s) ≡ layout_of (attributes l.place (l.base + l.at) (drop l.at l.s));
}

abbrev pub decreases-loop-at : goal.decreases-loop-at
decreases-loop-at l = length l.s - l.at
