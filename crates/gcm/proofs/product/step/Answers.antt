use Prim.Native.Nat.{◌+◌, ◌*◌}
use borrow.Author.Rules.{rules}
use mir.Val.{Fits}
use mir.Syntax.{w64}
use Rattle.gcm.specs.inner.Halves.{pair_number}
use Rattle.gcm.proofs.MultipleLaws.{stepped-is}
use Rattle.gcm.proofs.product.step.Goals as goal

-- `gcm::product::step` meets its contract.

pub returns : goal.returns
unfolding pair_number
returns c y m =
    let b = c.shift_four-m in
    let g : Fits w64 b.result.lo = search rules in
    stepped-is y c.args.d (pair_number c.args.z) c.args.w.now b.result.hi b.result.lo c.requires.0
    (c.shared_slice_known-1.given (2 * c.args.d + 1)).fits g.fits m b.ensures
