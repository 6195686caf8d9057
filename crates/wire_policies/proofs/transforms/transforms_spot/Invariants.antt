use Rattle.std.proofs.Common.{◌≡◌, ◌+◌, length, ◌-◌, ◌≤◌, drop}
use Rattle.octets.proofs.Walks.{outline}
use Rattle.wire_policies.specs.Transform.{transforms}
use Rattle.wire_policies.proofs.transforms.transforms_spot.Given as goal

abbrev pub invariant-loop-e : goal.invariant-loop-e
invariant-loop-e l = record {
  inside : l.at ≤ length l.s;
  so_far : outline (transforms l.holder l.base l.s) ≡ outline (transforms l.holder (l.base + l.at) (drop l.at l.s));
}

abbrev pub decreases-loop-e : goal.decreases-loop-e
decreases-loop-e l = length l.s - l.at
