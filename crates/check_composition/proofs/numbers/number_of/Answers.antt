use native.Mathlib.Omega.{arith}
use mathlib.Core.Path.{refl}
use Rattle.wire_attributes.specs.declared.tables.Meaning.TheVariants as meaning
use Rattle.check_composition.proofs.NumberLaws.{octets-of, number_is}
use Rattle.check_composition.proofs.numbers.number_of.Goals as goal

pub be32_at-requires : goal.be32_at-requires
be32_at-requires c =
    octets-of c.args.m c.args.v.now c.requires.1 meaning.InitialMessageId 4 c.in-InitialMessageId.is (λ n. refl)

pub be16_at-requires : goal.be16_at-requires
be16_at-requires c =
    octets-of c.args.m c.args.v.now c.requires.1 meaning.DeactivationDelay 2 c.in-DeactivationDelay.is (λ n. refl)

pub be32_at-requires-in-KeyLifetime : goal.be32_at-requires-in-KeyLifetime
be32_at-requires-in-KeyLifetime c =
    octets-of c.args.m c.args.v.now c.requires.1 meaning.KeyLifetime 4 c.in-KeyLifetime.is (λ n. refl)

pub returns-in-InitialMessageId : goal.returns-in-InitialMessageId
returns-in-InitialMessageId c =
    number_is c.args.m c.args.v.now c.requires.1 meaning.InitialMessageId _ c.in-InitialMessageId.is c.be32_at.ensures
    (omega arith)

pub returns-in-DeactivationDelay : goal.returns-in-DeactivationDelay
returns-in-DeactivationDelay c =
    number_is c.args.m c.args.v.now c.requires.1 meaning.DeactivationDelay _ c.in-DeactivationDelay.is
    c.be16_at.ensures.0 (omega arith)

pub returns-in-KeyLifetime : goal.returns-in-KeyLifetime
returns-in-KeyLifetime c =
    number_is c.args.m c.args.v.now c.requires.1 meaning.KeyLifetime _ c.in-KeyLifetime.is c.be32_at-in-KeyLifetime.ensures
    (omega arith)
