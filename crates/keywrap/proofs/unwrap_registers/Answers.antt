use native.Mathlib.Omega.{arith}
use Rattle.octets.specs.Octets.{Octets}
use Rattle.keywrap.proofs.Opening.{part_count, part-within, part-kept, unwrapped-is}
use Rattle.keywrap.proofs.unwrap_registers.Goals as goal

-- `keywrap::unwrap_registers` meets its contract.

pub slice_bounds-load-end : goal.slice_bounds-load-end
slice_bounds-load-end c =
    part_count c.args.wrapped.now c.args.n (λ i. (c.shared_slice_known-1.given i).fits) c.requires.le_n.1

pub load-requires : goal.load-requires
load-requires c =
    let n = part_count c.args.wrapped.now c.args.n (λ i. (c.shared_slice_known-1.given i).fits) c.requires.le_n.1 in
    omega (arith, n, c.requires.le_n.2)

pub slice_bounds-s-end-2 : goal.slice_bounds-s-end-2
slice_bounds-s-end-2 c =
    let w = c.args.wrapped.now in
    let o : Octets w = λ i. (c.shared_slice_known-1.given i).fits in
    part-within w c.args.n o c.requires.le_n.1 c.load.new.s c.load.ensures

pub slice_bounds-backward_in-end : goal.slice_bounds-backward_in-end
slice_bounds-backward_in-end c =
    let w = c.args.wrapped.now in
    let o : Octets w = λ i. (c.shared_slice_known-1.given i).fits in
    part-kept w c.args.n o c.requires.le_n.1 c.load.new.s c.load.ensures

pub backward_in-requires : goal.backward_in-requires
backward_in-requires c =
    let w = c.args.wrapped.now in
    let o : Octets w = λ i. (c.shared_slice_known-1.given i).fits in
    let k = part-kept w c.args.n o c.requires.le_n.1 c.load.new.s c.load.ensures in
    record {
      tables_value = c.requires.tables_value;
      le_n = (c.requires.le_n.0, c.requires.le_n.1, omega (arith, k));
    }

pub returns : goal.returns
returns c = λ key e.
    let w = c.args.wrapped.now in
    let o : Octets w = λ i. (c.shared_slice_known-1.given i).fits in
    unwrapped-is w c.args.n o c.requires.le_n.1 c.load.new.s c.load.ensures key c.backward_in.new.s _
    e.key-is c.requires.le_n.0 c.requires.le_n.2 (c.backward_in.ensures key e)
