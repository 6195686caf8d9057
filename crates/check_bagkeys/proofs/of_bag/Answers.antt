use mathlib.Core.Path.{refl}
use Rattle.state_keys.specs.Limits.{limits}
use Rattle.check_bagkeys.proofs.BagLaws.{member-held, group-held, of-member-is, of-group-is}
use Rattle.check_bagkeys.proofs.of_bag.Goals as goal

pub keys_of-requires : goal.keys_of-requires
keys_of-requires c = (refl, member-held limits c.args.fresh _ _ c.if-first-eq-NO_PROTOCOL.true c.requires)

pub returns-then-first-eq-NO_PROTOCOL : goal.returns-then-first-eq-NO_PROTOCOL
returns-then-first-eq-NO_PROTOCOL c =
    of-member-is limits _ _ c.args.a.now _ _ c.if-first-eq-NO_PROTOCOL.true c.keys_of.ensures
    c.of_member.ensures

pub keys_of-k-requires : goal.keys_of-k-requires
keys_of-k-requires c = (
  refl,
  group-held limits c.args.fresh _ _ c.if-first-eq-NO_PROTOCOL.false c.requires _
      c.in_bag-place.ensures,
)

pub fresh_of-e-requires : goal.fresh_of-e-requires
fresh_of-e-requires c =
    (group-held limits c.args.fresh _ _ c.if-first-eq-NO_PROTOCOL.false
    c.requires _ c.in_bag-place.ensures)

pub returns : goal.returns
returns c =
    of-group-is limits _ _ c.args.a.now _ _ _ c.if-first-eq-NO_PROTOCOL.false _
    c.in_bag-place.ensures c.keys_of-k.ensures (c.fresh_of-e.ensures c.args.first
    c.in_bag-place.ensures) c.of_group.ensures
