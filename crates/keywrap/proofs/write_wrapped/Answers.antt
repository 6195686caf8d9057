use mathlib.Core.Path.{ap, ◌∙◌}
use mathlib.Core.List.{List}
use Prim.Native.Nat.{ℕ}
use native.Mathlib.Omega.{arith}
use Rattle.octets.specs.Octets.{Octets}
use Rattle.keywrap.specs.Answers.{written}
use Rattle.rfc5649.proofs.Wrapping.{length-wrap}
use Rattle.keywrap.proofs.Front.{front-count, front-within, front_kept, wrapped-is}
use Rattle.keywrap.proofs.write_wrapped.Goals as goal

-- `keywrap::write_wrapped` meets its contract.

pub slice_bounds-forward_in-end : goal.slice_bounds-forward_in-end
slice_bounds-forward_in-end c =
    let o : Octets c.args.octets.now = λ i. (c.shared_slice_known-2-1.given i).fits in
    front-count c.args.octets.now c.start_registers-s.result o c.requires.in_bounds.0 c.requires.in_bounds.1 c.start_registers-s.ensures

pub forward_in-requires : goal.forward_in-requires
forward_in-requires c =
    let o : Octets c.args.octets.now = λ i. (c.shared_slice_known-2-1.given i).fits in
    let n = front-count c.args.octets.now c.start_registers-s.result o c.requires.in_bounds.0 c.requires.in_bounds.1
    c.start_registers-s.ensures in
    record {
      tables_value = (c.tables-tables.ensures, record { key = c.args.key.now; expands = c.expand-schedule.ensures });
      le_n = (omega arith, omega arith, omega (arith, n));
    }

pub slice_bounds-s-end-2 : goal.slice_bounds-s-end-2
slice_bounds-s-end-2 c =
    let o : Octets c.args.octets.now = λ i. (c.shared_slice_known-2-1.given i).fits in
    let e = c.expand-schedule.ensures in
    front-within c.args.octets.now c.start_registers-s.result o c.requires.in_bounds.0 c.requires.in_bounds.1 c.start_registers-s.ensures
    c.args.key.now c.forward_in.new.s e.key-is (c.forward_in.ensures c.args.key.now e)

pub slice_bounds-store-end : goal.slice_bounds-store-end
slice_bounds-store-end c =
    let o : Octets c.args.octets.now = λ i. (c.shared_slice_known-2-1.given i).fits in
    let e = c.expand-schedule.ensures in
    front_kept c.args.octets.now c.start_registers-s.result o c.requires.in_bounds.0 c.requires.in_bounds.1 c.start_registers-s.ensures
    c.args.key.now c.forward_in.new.s e.key-is (c.forward_in.ensures c.args.key.now e)

pub store-requires : goal.store-requires
store-requires c =
    let o : Octets c.args.octets.now = λ i. (c.shared_slice_known-2-1.given i).fits in
    let e = c.expand-schedule.ensures in
    let n = front_kept c.args.octets.now c.start_registers-s.result o c.requires.in_bounds.0 c.requires.in_bounds.1
    c.start_registers-s.ensures
    c.args.key.now c.forward_in.new.s e.key-is (c.forward_in.ensures c.args.key.now e) in
    omega (arith, n, length-wrap c.args.key.now c.args.octets.now e.key-is o c.requires.in_bounds.0 c.requires.in_bounds.1, c.requires.octets_in_bounds)

pub returns : goal.returns
returns c =
    let o : Octets c.args.octets.now = λ i. (c.shared_slice_known-2-1.given i).fits in
    let e = c.expand-schedule.ensures in
    c.store.ensures
    ∙ ap (λ (w : List ℕ). written w c.args.room.now)
    (wrapped-is c.args.octets.now c.start_registers-s.result o c.requires.in_bounds.0 c.requires.in_bounds.1 c.start_registers-s.ensures
    c.args.key.now c.forward_in.new.s e.key-is (c.forward_in.ensures c.args.key.now e))
