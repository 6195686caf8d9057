use Rattle.std.proofs.Common.{length, ◌-◌, ◌≡◌, ◌+◌, drop, ◌≤◌}
use Rattle.wire_attributes.specs.Answers.{layout_of}
use Rattle.wire_bags.specs.Bag.{bags}
use Rattle.wire_bags.proofs.are_bags.Given as goal

abbrev pub invariant-loop-at : goal.invariant-loop-at
invariant-loop-at l = record {
  inside : l.at ≤ length l.s;
  so_far : layout_of (bags l.fresh l.base l.s) ≡ layout_of (bags l.fresh (l.base + l.at) (drop l.at l.s));
}

abbrev pub decreases-loop-at : goal.decreases-loop-at
decreases-loop-at l = length l.s - l.at
