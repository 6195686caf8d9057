use Rattle.std.proofs.Common.{◌≡◌, ◌+◌, length, ◌-◌, ◌≤◌, drop}
use Rattle.octets.proofs.Walks.{outline}
use Rattle.wire_frames.specs.Frame.{payloads}
use Rattle.wire_frames.proofs.payloads_layout.Given as goal

abbrev pub invariant-loop-kind : goal.invariant-loop-kind
invariant-loop-kind l = record {
  inside : l.at ≤ length l.s;
  so_far : outline (payloads l.fresh l.first l.base l.s) ≡ outline (payloads l.fresh l.kind (l.base + l.at) (drop l.at l.s));
}

abbrev pub decreases-loop-kind : goal.decreases-loop-kind
decreases-loop-kind l = length l.s - l.at
