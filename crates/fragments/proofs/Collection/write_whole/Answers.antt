use native.Mathlib.Omega.{arith}
use mathlib.Core.Path.{◌≡◌}
use lib.ListN.{length}
use Rattle.ikev2_numbers.specs.Codes.{rekey_spi_octets}
use Rattle.fragments.proofs.WriteLaws.{few-held, size-counted, small-counted, written}
use Rattle.fragments.proofs.Collection.write_whole.Goals as goal

pub shared_ref_as_front-frame_octets : goal.shared_ref_as_front-frame_octets
shared_ref_as_front-frame_octets c =
    let a = c.args.self in
    let few = few-held a c.requires.holding.0 c.requires.holding.1 in
    omega arith

pub make_header-h-requires : goal.make_header-h-requires
make_header-h-requires c =
    small-counted c.args.self c.requires.holding.0 c.requires.holding.1 c.frame_octets-size.result c.frame_octets-size.ensures

pub put_frame-requires-clause-size_in_bounds : goal.put_frame-requires-clause-size_in_bounds
put_frame-requires-clause-size_in_bounds c =
    let a = c.args.self in
    let e = size-counted a c.requires.holding.0 c.requires.holding.1 c.frame_octets-size.result c.frame_octets-size.ensures in
    let f = small-counted a c.requires.holding.0 c.requires.holding.1 c.frame_octets-size.result c.frame_octets-size.ensures in
    let r = c.requires.most_octets_in_bounds in
    (omega arith, omega arith)

pub returns : goal.returns
returns c =
    λ w e.
    let a = c.args.self in
    let s : length a.spis ≡ rekey_spi_octets = omega arith in
    let f = size-counted a c.requires.holding.0 c.requires.holding.1 c.frame_octets-size.result c.frame_octets-size.ensures in
    written c.frame_octets-size.result c.make_header-h.result c.args.room.now _ w a e s f c.make_header-h.ensures
    c.put_frame.ensures
