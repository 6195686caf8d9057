-- The facts of a frame: of its payloads, of the policies of the first GSA and of the key bags of the first KD, and where its first Member
-- Key Bag stands.
use Rattle.std.specs.Prelude.{ℕ, List, Bool, ◌&&◌}
use Rattle.octets.specs.Walk.{part}
use Rattle.state_keys.specs.Limits.{limits}
use Rattle.wire_frames.specs.declared.exchanges.Exchange.{Exchange}
use Rattle.wire_readers.specs.inner.Policies.{policies_in}
use Rattle.wire_readers.specs.inner.Bags.{bags_in}
use Rattle.wire_readers.specs.declared.Stretch.{Stretch}
use Rattle.check_payloads.specs.inner.Facts.{payload_facts_of as payloadFacts}
use Rattle.check_composition.specs.inner.Facts.{policy_facts_of as policyFacts}
use Rattle.check_bagkeys.specs.inner.Facts.{bag_facts_of as bagFacts}
use Rattle.check_bagkeys.specs.inner.Places.{member_in}
use Rattle.check_judging.specs.declared.facts.Facts.{Facts}

-- the octets of `s` in stretch `x`
abbrev pub at : List ℕ → Stretch → List ℕ
at s x = part s x.start x.end

-- the facts of frame `s` for a member with this `profile`; `row` is the row of the frame's exchange
abbrev pub frame_facts_of : Bool → Exchange → List ℕ → Facts
frame_facts_of profile row s = record {
  payloads = payloadFacts s;
  policies = policyFacts row.authentication (policies_in (at s (payloadFacts s).gsa));
  bags = bagFacts limits (bags_in (profile && row.reads_fresh_keys) (at s (payloadFacts s).kd));
  member_bag = member_in (at s (payloadFacts s).kd);
}
