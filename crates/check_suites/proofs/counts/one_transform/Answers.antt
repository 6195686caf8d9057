use mathlib.Core.Path.{ap, ◌∙◌}
use Rattle.wire_attributes.specs.Layout.{attributes}
use Rattle.wire_attributes.specs.declared.tables.Place.{Place}
use Rattle.wire_readers.specs.inner.Values.{is_whole}
use Rattle.check_suites.proofs.TestLaws.{one-is}
use Rattle.check_suites.proofs.counts.one_transform.Goals as goal

pub count_of-n-requires : goal.count_of-n-requires
count_of-n-requires c =
    ap (λ (x : Place). is_whole (attributes x 0 c.args.a.now)) c.in_transform.ensures ∙ c.requires.1

pub returns : goal.returns
returns c =
    let a = c.args in
    one-is a.kind a.id a.a.now _ _ _ c.encryption_octets-e.ensures.0
    (c.wrapping_octets-w.ensures.0 a.a.now) _ c.in_transform.ensures c.count_of-n.ensures _ _
    c.is_one_of.ensures c.is_one_of-2.ensures _ _ _ _ _
    c.one_if.ensures c.one_if-2.ensures
    c.one_if-3.ensures c.one_if-4.ensures c.one_if-5.ensures
