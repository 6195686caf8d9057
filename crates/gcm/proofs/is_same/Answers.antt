use borrow.Author.Rules.{rules}
use mir.Val.{Fits}
use mir.Syntax.{w64}
use Rattle.gcm.specs.inner.Halves.{pair_number}
use Rattle.gcm.proofs.TagLaws.{compared}
use Rattle.gcm.proofs.is_same.Goals as goal

-- `gcm::is_same` meets its contract.

pub returns : goal.returns
unfolding pair_number
returns c =
    let a = c.args in
    let f : Fits w64 a.x.lo = search rules in
    let g : Fits w64 a.y.lo = search rules in
    compared a.x.hi a.x.lo a.y.hi a.y.lo f.fits g.fits
