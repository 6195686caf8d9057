use mathlib.Core.Path.{sym, ap, ◌∙◌}
use Prim.Native.Nat.{ℕ, ◌+◌, ◌-◌, ◌*◌}
use native.Mathlib.Omega.{arith}
use lib.ListN.{length, replicate}
use lib.Seq.{length-take-le}
use Rattle.rfc5649.specs.Wrap.{blocks}
use Rattle.keywrap.proofs.Loading.{length-filled, begun-is}
use Rattle.keywrap.proofs.load.start_registers.Goals as goal

-- `keywrap::load::start_registers` meets its contract.

pub slice_bounds-load-end : goal.slice_bounds-load-end
slice_bounds-load-end c =
    let x = c.args.octets.now in
    let p = c.copy in
    let l = length-filled x p.new.dst (omega arith) p.ensures.1 in
    sym (length-take-le (8 * blocks (length x)) p.new.dst (omega (arith, l)))

pub load-requires : goal.load-requires
load-requires c =
    let x = c.args.octets.now in
    let p = c.copy in
    let l = length-filled x p.new.dst (omega arith) p.ensures.1 in
    length-take-le (8 * blocks (length x)) p.new.dst (omega (arith, l))
    ∙ ap (λ (k : ℕ). 8 * k) (sym (length-take-le (blocks (length x) + 1 - 1) (replicate 32 0) (omega arith) ∙ omega arith))

pub returns : goal.returns
returns c =
    let x = c.args.octets.now in
    begun-is x c.copy.new.dst (omega arith) c.copy.ensures.1 c.load.ensures
