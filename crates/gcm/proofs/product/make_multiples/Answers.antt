use mathlib.Core.Path.{refl}
use native.Mathlib.Omega.{arith}
use Rattle.gcm.specs.inner.Halves.{pair_number}
use Rattle.gcm.proofs.MultipleLaws.{filled, filled-all}
use Rattle.gcm.proofs.product.make_multiples.Goals as goal

-- `gcm::product::make_multiples` meets its contract.

pub loop-d-init : goal.loop-d-init
loop-d-init c = record { most = omega arith; size = refl; each = λ e h. absurd (omega (arith, h)) }

pub loop-d-preserved : goal.loop-d-preserved
unfolding pair_number
loop-d-preserved c =
    let m = c.make_multiple-m in
    filled (pair_number c.args.y) c.loop-d.d m.result.hi m.result.lo c.loop-d.w (omega arith) c.loop-d.invariant
    m.ensures

pub returns : goal.returns
returns c =
    filled-all (pair_number c.args.y) c.loop-d.d c.loop-d.w (omega arith) c.loop-d.invariant
