use Prim.Native.Nat.{◌+◌, ◌*◌, ◌≤◌}
use lib.ListN.{length}
use native.Mathlib.Omega.{arith}
use Rattle.check_payloads.proofs.DeleteLaws.{least, spi-inside, spi-is}
use borrow.Author.Rules.{rules}
use Rattle.check_payloads.proofs.deletion.spi_at.Statement.{statement}
use Rattle.check_payloads.proofs.deletion.spi_at.Tie as tie

shared-slice-read-wide : tie.Need-bounds-o-1
shared-slice-read-wide c = omega (arith, least c.args.o.now c.requires.0)

wide-requires : tie.Need-wide-size-requires
wide-requires c κs = search rules

inside : (c : tie.After-wide-size)
    → let a = c.args in
    let z = c.wide-size.result in
    4 + z * a.i + z ≤ length a.o.now
inside c =
    spi-inside c.args.o.now c.requires.0 c.args.i c.wide-size.result c.wide-size.ensures.0 c.requires.1

mul-a : tie.Need-overflow_mul-a
mul-a c = record { fits = omega (arith, inside c) }

add_a : tie.Need-overflow_add-a
add_a c = record { fits = omega (arith, inside c) }

add-e : tie.Need-overflow_add-e
add-e c = record { fits = omega (arith, inside c) }

sub-result : tie.Need-slice_bounds-result-count
sub-result c = omega arith

part-result-start : tie.Need-slice_bounds-result-start
part-result-start c = omega arith

part-result-end : tie.Need-slice_bounds-result-end
part-result-end c = omega (arith, inside c)

returns : tie.Need-returns
returns c =
    spi-is c.args.o.now c.requires.0 c.args.i c.wide-size.result c.wide-size.ensures.0 c.requires.1

pub spi_at_spec : {M : Type 1} → statement M
spi_at_spec =
    tie.close
    (tie.spec
    shared-slice-read-wide
    wide-requires
    mul-a
    add_a
    add-e
    sub-result
    part-result-start
    part-result-end
    returns)
