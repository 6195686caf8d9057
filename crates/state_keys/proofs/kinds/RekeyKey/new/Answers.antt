use native.Mathlib.Omega.{arith}
use mathlib.Core.Path.{sym, ◌∙◌}
use borrow.Author.Tests.{eq-eqb, ne_eqb}
use Rattle.state_keys.specs.Kinds.{rekey_key}
use Rattle.state_keys.proofs.Sizes.{rekey-le}
use Rattle.state_keys.proofs.kinds.RekeyKey.new.Goals as goal

pub returns-then-not-are_sizes : goal.returns-then-not-are_sizes
unfolding rekey_key
returns-then-not-are_sizes c = let s = sym c.are_sizes.ensures ∙ c.if-not-are_sizes.true in rw s

pub overflow_add-encryption : goal.overflow_add-encryption
overflow_add-encryption c =
    let s = sym c.are_sizes.ensures ∙ c.if-not-are_sizes.false in let b = rekey-le _ _ s in record { fits = omega arith }

pub returns-then-octets-encryption : goal.returns-then-octets-encryption
unfolding rekey_key
returns-then-octets-encryption c =
    let s = sym c.are_sizes.ensures ∙ c.if-not-are_sizes.false in rw (s, ne_eqb _ _ c.if-octets-encryption.true)

pub padded-requires : goal.padded-requires
padded-requires c =
    let s = sym c.are_sizes.ensures ∙ c.if-not-are_sizes.false in
    let b = rekey-le _ _ s in
    (omega arith, omega (arith, c.if-octets-encryption.false))

pub returns : goal.returns
unfolding rekey_key
returns c =
    let s = sym c.are_sizes.ensures ∙ c.if-not-are_sizes.false in
    rw (s, eq-eqb _ _ c.if-octets-encryption.false, c.padded.ensures)
