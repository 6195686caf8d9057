use Rattle.std.proofs.Common.{◌≡◌, ◌+◌, ◌≤◌, drop}
use Rattle.ikev2_numbers.specs.Codes.{header_octets, most_octets}
use Rattle.fragments.specs.Collection.{size_of_all}
use Rattle.fragments.proofs.counting.frame_octets.Given as goal

abbrev pub invariant-loop-p : goal.invariant-loop-p
invariant-loop-p l =
    record {
      few : l.octets ≤ most_octets;
      counted : header_octets + size_of_all l.pieces ≡ l.octets + size_of_all (drop l.p-index l.pieces);
    }
