use Rattle.std.proofs.Common.{sym, ◌∙◌}
use Rattle.lists.proofs.Cases.{never}
use Rattle.check_composition.proofs.AddressLaws.{not-one, not-group, one-group}
use Rattle.check_composition.proofs.addresses.is_group_address.Goals as goal
use Rattle.check_composition.proofs.addresses.is_group_address.Goals.{then-same, else-same}

pub returns-then-is_multicast : goal.returns-then-is_multicast
returns-then-is_multicast c = λ x i.
    elim c.if-same.branch [
      | then-same w ↦
          one-group c.args.o.now x i c.wide-kind.result c.address_size-e.result c.wide-kind.ensures.0 c.address_size-e.ensures.0
          c.same.result c.same.ensures w.wide.result w.wide.ensures.0 w.is_multicast.result w.is_multicast.ensures
          w.if-same.true (sym w.value-is ∙ c.if-is_multicast.true) c.be16_at.result c.be16_at-then-is_multicast.result
          c.be16_at.ensures.0 c.be16_at-then-is_multicast.ensures.0
      | else-same w ↦ never c.if-same.value c.if-is_multicast.true (w.value-is ∙ w.if-same.false)
    ]

pub returns-else-is_multicast : goal.returns-else-is_multicast
returns-else-is_multicast c = λ x i.
    c.if-is_multicast.false ∙
    elim c.if-same.branch [
      | then-same w ↦
          not-group c.args.o.now x i c.wide-kind.result c.address_size-e.result c.wide-kind.ensures.0 c.address_size-e.ensures.0
          c.same.result c.same.ensures w.wide.result w.wide.ensures.0 w.is_multicast.result w.is_multicast.ensures
          w.if-same.true (sym w.value-is ∙ c.if-is_multicast.false)
      | else-same w ↦
          not-one c.args.o.now x i c.wide-kind.result c.address_size-e.result c.wide-kind.ensures.0 c.address_size-e.ensures.0
          c.same.result c.same.ensures w.if-same.false
    ]
