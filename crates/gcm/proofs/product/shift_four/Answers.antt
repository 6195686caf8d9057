use borrow.Author.Rules.{rules}
use mir.Val.{Fits}
use mir.Syntax.{w64}
use Rattle.gcm.specs.inner.Halves.{pair_number}
use Rattle.gcm.proofs.DigitLaws.{four-carried, four-halves}
use Rattle.gcm.proofs.product.shift_four.Goals as goal

-- `gcm::product::shift_four` meets its contract.

pub overflow_add-result : goal.overflow_add-result
overflow_add-result c =
    let a = c.args in
    let f : Fits w64 a.z.lo = search rules in
    record { fits = four-carried a.z.hi a.z.lo f.fits }

pub returns : goal.returns
unfolding pair_number
returns c =
    let a = c.args in
    let f : Fits w64 a.z.lo = search rules in
    four-halves a.z.hi a.z.lo c.reduce_four-off.result f.fits c.reduce_four-off.ensures
