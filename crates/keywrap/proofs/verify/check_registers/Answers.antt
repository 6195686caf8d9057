use borrow.Author.Rules.{rules}
use mathlib.Core.Path.{refl, sym, ap, ◌∙◌}
use Prim.Native.Nat.{◌*◌}
use native.Mathlib.Omega.{arith}
use lib.ListN.{take}
use lib.Seq.{length-take-le}
use mir.Val.{Fits}
use mir.Syntax.{w64}
use Rattle.rfc5649.specs.Steps.{register}
use Rattle.keywrap.specs.inner.Blank.{blank}
use Rattle.octets.proofs.Walks.{to_end}
use Rattle.rfc5649.specs.inner.Unwrap.{all_zero, zero_from}
use Rattle.rfc5649.proofs.Registers.{Registers}
use Rattle.keywrap.proofs.Found.{none_told, length-out, padded-holds, not-zero, found}
use Rattle.keywrap.proofs.verify.check_registers.Goals as goal

-- `keywrap::verify::check_registers` meets its contract.

pub returns-then-m-eq0 : goal.returns-then-m-eq0
returns-then-m-eq0 c =
    let s = c.args.s in
    let n = c.args.n in
    let is : Registers 33 s = record { size = omega arith; small = λ i. let f : Fits w64 (register s i) = search rules in f.fits } in
    record { none = none_told s n is c.requires.0 c.requires.1 (sym c.count_in-m.ensures ∙ c.if-m-eq0.true); room-is = refl }

pub slice_bounds-padded-end : goal.slice_bounds-padded-end
unfolding blank
slice_bounds-padded-end c =
    let s = c.args.s in
    let n = c.args.n in
    let is : Registers 33 s = record { size = omega arith; small = λ i. let f : Fits w64 (register s i) = search rules in f.fits } in
    let out = c.store.new.room in
    sym (length-take-le (8 * n) out
    (omega (
      arith,
      c.requires.1,
      length-out s n is c.requires.0 c.requires.1 c.count_in-m.result out (sym c.count_in-m.ensures) c.store.ensures,
    )))

pub slice_bounds-is_zero-count : goal.slice_bounds-is_zero-count
unfolding blank
slice_bounds-is_zero-count c =
    let s = c.args.s in
    let n = c.args.n in
    let is : Registers 33 s = record { size = omega arith; small = λ i. let f : Fits w64 (register s i) = search rules in f.fits } in
    padded-holds s n is c.requires.0 c.requires.1 c.count_in-m.result c.store.new.room (sym c.count_in-m.ensures) c.store.ensures
    c.if-m-eq0.false

pub slice_bounds-is_zero-start : goal.slice_bounds-is_zero-start
unfolding blank
slice_bounds-is_zero-start c =
    let s = c.args.s in
    let n = c.args.n in
    let is : Registers 33 s = record { size = omega arith; small = λ i. let f : Fits w64 (register s i) = search rules in f.fits } in
    padded-holds s n is c.requires.0 c.requires.1 c.count_in-m.result c.store.new.room (sym c.count_in-m.ensures) c.store.ensures
    c.if-m-eq0.false

pub returns-then-is_zero : goal.returns-then-is_zero
unfolding blank zero_from
returns-then-is_zero c =
    let s = c.args.s in
    let n = c.args.n in
    let is : Registers 33 s = record { size = omega arith; small = λ i. let f : Fits w64 (register s i) = search rules in f.fits } in
    let out = c.store.new.room in
    found s n is c.requires.0 c.requires.1 c.count_in-m.result out (sym c.count_in-m.ensures) c.store.ensures
    c.if-m-eq0.false
    (ap all_zero (sym (to_end (take (8 * n) out) c.count_in-m.result)) ∙ sym c.is_zero.ensures ∙ c.if-is_zero.true)

pub returns : goal.returns
unfolding blank zero_from
returns c =
    let s = c.args.s in
    let n = c.args.n in
    let is : Registers 33 s = record { size = omega arith; small = λ i. let f : Fits w64 (register s i) = search rules in f.fits } in
    let out = c.store.new.room in
    record {
      none = not-zero s n is c.requires.0 c.requires.1 c.count_in-m.result out (sym c.count_in-m.ensures) c.store.ensures
          (ap all_zero (sym (to_end (take (8 * n) out) c.count_in-m.result)) ∙ sym c.is_zero.ensures ∙ c.if-is_zero.false);
      room-is = refl;
    }
