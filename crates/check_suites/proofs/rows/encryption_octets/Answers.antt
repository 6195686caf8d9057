use native.Mathlib.Omega.{arith}
use mathlib.Core.Path.{ap, ◌∙◌}
use Rattle.wire_attributes.specs.Layout.{attributes}
use Rattle.wire_attributes.specs.declared.tables.Place.{Place}
use Rattle.wire_readers.specs.inner.Values.{is_whole}
use Rattle.check_suites.proofs.TestLaws.{encryption-type, no-encryption}
use Rattle.check_suites.proofs.rows.encryption_octets.Goals as goal

pub key_length_octets-requires : goal.key_length_octets-requires
key_length_octets-requires c =
    (c.requires.0, ap (λ (x : Place). is_whole (attributes x 0 c.args.a.now)) c.in_transform.ensures ∙ c.requires.1, c.requires.2)

pub returns-then-kind-eq-ENCR : goal.returns-then-kind-eq-ENCR
returns-then-kind-eq-ENCR c =
    let a = c.args in (
      encryption-type a.kind a.id a.a.now c.in_transform.result c.key_length_octets.result
          c.if-kind-eq-ENCR.true c.in_transform.ensures c.key_length_octets.ensures.0,
      c.key_length_octets.ensures.1,
    )

pub returns : goal.returns
returns c =
    let a = c.args in
    (no-encryption a.kind a.id a.a.now c.if-kind-eq-ENCR.false, omega arith)
