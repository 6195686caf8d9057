use Rattle.wire_readers.proofs.PoliciesLaws.{fits-first, policy-is}
use Rattle.wire_readers.proofs.policy.policy_parts.Goals as goal

pub head_parts-requires : goal.head_parts-requires
head_parts-requires c = fits-first c.args.s.now c.requires.1 c.requires.0

pub returns : goal.returns
returns c = policy-is c.args.s.now c.requires.1 c.requires.0 _ c.head_parts.ensures
