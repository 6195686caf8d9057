use native.Mathlib.Omega.{arith}
use Prim.Native.Nat.{ℕ, ◌+◌, ◌*◌}
use mathlib.Core.Path.{ap}
use Rattle.unwrap_lending.specs.inner.Lending.{place_octets}
use Rattle.unwrap_lending.proofs.Blocks.{inside-here, value-here}
use borrow.Author.Rules.{rules}
use Rattle.unwrap_lending.proofs.value_at.Goals as goal

-- `unwrap_lending::value_at` meets its contract.

pub overflow_mul-at : goal.overflow_mul-at
overflow_mul-at c =
    let p = c.requires in
    let i = inside-here p.0 p.1 c.args.block.now p.2 c.args.i p.3 in
    record { fits = omega arith }

pub overflow_add-start : goal.overflow_add-start
overflow_add-start c =
    let p = c.requires in
    let i = inside-here p.0 p.1 c.args.block.now p.2 c.args.i p.3 in
    record { fits = omega arith }

pub bounds-block-at : goal.bounds-block-at
bounds-block-at c =
    let p = c.requires in
    let i = inside-here p.0 p.1 c.args.block.now p.2 c.args.i p.3 in
    omega arith

pub overflow_add-result : goal.overflow_add-result
overflow_add-result c =
    let p = c.requires in
    let i = inside-here p.0 p.1 c.args.block.now p.2 c.args.i p.3 in
    record { fits = omega (arith, c.from-count.ensures) }

pub slice_bounds-result-end : goal.slice_bounds-result-end
slice_bounds-result-end c =
    let p = c.requires in
    let i = inside-here p.0 p.1 c.args.block.now p.2 c.args.i p.3 in
    omega (arith, c.from-count.ensures)

pub returns-clause-result_value : goal.returns-clause-result_value
returns-clause-result_value c keys ids lends h =
    value-here keys ids c.args.block.now lends c.args.i h _
    (ap (λ (n : ℕ). place_octets * c.args.i + 1 + n) (let q = c.from-count.ensures in search rules))
