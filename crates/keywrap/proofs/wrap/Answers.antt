use mathlib.Core.Path.{refl, ap}
use native.Mathlib.Omega.{arith}
use lib.ListN.{length}
use Rattle.octets.specs.Octets.{Octets}
use Rattle.rfc5649.specs.Wrap.{wrap_of}
use Rattle.keywrap.proofs.Answering.{is-so}
use Rattle.rfc5649.proofs.Wrapping.{length-wrap}
use Rattle.keywrap.proofs.wrap.Goals as goal

-- `keywrap::wrap` meets its contract.

pub returns-then-room-n : goal.returns-then-room-n
returns-then-room-n c =
    let a = c.args in
    let key = a.key.now in
    let x = a.octets.now in
    let o : Octets x = λ i. (c.shared_slice_known-2-1.given i).fits in
    let k : Octets key = λ i. (c.shared_slice_known-1.given i).fits in
    record {
      none = λ y w.
          let l = length-wrap key x (record { size = w.key-size; small = k }) o w.least w.most in
          omega (arith, l, ap length w.is, w.holds);
      room-is = refl;
    }

pub write_wrapped-requires : goal.write_wrapped-requires
write_wrapped-requires c =
    let a = c.args in
    let key = a.key.now in
    let x = a.octets.now in
    let o : Octets x = λ i. (c.shared_slice_known-2-1.given i).fits in
    let k : Octets key = λ i. (c.shared_slice_known-1.given i).fits in
    let t = is-so c.is_key.ensures c.if-not-is_key.false in
    record {
      t = t;
      in_bounds = (omega arith, omega arith);
      octets_in_bounds = omega (arith, length-wrap key x (record { size = t; small = k }) o (omega arith) (omega arith));
    }

pub returns : goal.returns
returns c =
    let a = c.args in
    let key = a.key.now in
    let x = a.octets.now in
    let o : Octets x = λ i. (c.shared_slice_known-2-1.given i).fits in
    let k : Octets key = λ i. (c.shared_slice_known-1.given i).fits in
    let t = is-so c.is_key.ensures c.if-not-is_key.false in
    let l = length-wrap key x (record { size = t; small = k }) o (omega arith) (omega arith) in
    record {
      x = wrap_of key x;
      result = record { key-size = t; least = omega arith; most = omega arith; is = refl; holds = omega (arith, l) };
      count = l;
      room-is = c.write_wrapped.ensures;
    }
