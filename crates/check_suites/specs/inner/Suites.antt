-- Counts of the transforms of a Group SA policy: all of them and those fit in each way, to judge "exactly one each" (number 5); those with
-- several Key Lengths (number 4). Beside them, the keying octets that an SA of the policy needs.
use Rattle.std.specs.Prelude.{ℕ, List, Bool, not, ◌&&◌, ◌||◌, length, eqb}
use Rattle.state_sa.specs.Entry.{esp_protocol, rekey_protocol}
use Rattle.lists.specs.Lists.{count}
use Rattle.wire_policies.specs.Transform.{Transform}
use Rattle.rules_refusals.specs.Fitness.{encryption_fits, key_wrap_fits, sequence_numbers_fit, authentication_fits}
use Rattle.rules_refusals.specs.Fitness.{sum, encryption_needs, key_wrap_needs}
use Rattle.rules_refusals.specs.Number4.{twice_in_transform}
use Rattle.check_suites.specs.declared.counts.SuiteCounts.{SuiteCounts}
use Rattle.check_suites.specs.declared.counts.Needs.{Needs}

abbrev pub suite_of : List Transform → SuiteCounts
suite_of l = record {
  count = length l;
  encryption = count encryption_fits l;
  wrapping = count key_wrap_fits l;
  sequence = count sequence_numbers_fit l;
  authentication = count authentication_fits l;
  doubled = count twice_in_transform l;
}

abbrev pub needs_of : List Transform → Needs
needs_of l = record { encryption = sum encryption_needs l; wrapping = sum key_wrap_needs l }

-- by the counts `s`, a policy of protocol `p` has the transforms that it must have, each once and no other. ESP: encryption and sequence
-- numbers. Rekey: encryption, key wrap and, if the exchange asks for it, the controller's authentication
abbrev pub fit_by : Bool → ℕ → SuiteCounts → Bool
fit_by authentication p s =
    (eqb p esp_protocol && (eqb s.count 2 && (eqb s.encryption 1 && eqb s.sequence 1)))
    || (eqb p rekey_protocol
    && ((authentication && (eqb s.count 3 && ((eqb s.encryption 1 && eqb s.wrapping 1) && eqb s.authentication 1)))
    || (not authentication && (eqb s.count 2 && (eqb s.encryption 1 && eqb s.wrapping 1)))))
