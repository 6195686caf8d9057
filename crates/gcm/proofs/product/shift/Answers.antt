use borrow.Author.Rules.{rules}
use mir.Val.{Fits}
use mir.Syntax.{w64}
use Rattle.gcm.specs.inner.Halves.{pair_number}
use Rattle.gcm.proofs.HalfLaws.{shifted-halves, carried-small}
use Rattle.gcm.proofs.product.shift.Goals as goal

-- `gcm::product::shift` meets its contract.

pub overflow_add-result : goal.overflow_add-result
overflow_add-result c =
    let a = c.args in
    let f : Fits w64 a.v.lo = search rules in
    record { fits = carried-small a.v.hi a.v.lo f.fits }

pub returns : goal.returns
unfolding pair_number
returns c =
    let a = c.args in
    let f : Fits w64 a.v.lo = search rules in
    shifted-halves a.v.hi a.v.lo f.fits
