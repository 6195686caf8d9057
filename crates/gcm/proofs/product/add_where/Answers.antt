use Prim.Native.Nat.{◌^◌}
use borrow.Author.Rules.{rules}
use mir.Val.{Fits}
use mir.Syntax.{w64}
use Rattle.gcm.specs.inner.Halves.{pair_number}
use Rattle.gcm.proofs.HalfLaws.{kept_small, added-halves}
use Rattle.gcm.proofs.product.add_where.Goals as goal

-- `gcm::product::add_where` meets its contract.

pub overflow_mul-result : goal.overflow_mul-result
overflow_mul-result c =
    let f : Fits w64 c.args.v.hi = search rules in
    record { fits = kept_small c.args.b c.args.v.hi (2 ^ 64) c.requires f.fits }

pub overflow_mul-result-2 : goal.overflow_mul-result-2
overflow_mul-result-2 c =
    let f : Fits w64 c.args.v.lo = search rules in
    record { fits = kept_small c.args.b c.args.v.lo (2 ^ 64) c.requires f.fits }

pub returns : goal.returns
unfolding pair_number
returns c =
    let a = c.args in
    let f : Fits w64 a.z.lo = search rules in
    let g : Fits w64 a.v.lo = search rules in
    added-halves a.z.hi a.z.lo a.v.hi a.v.lo a.b f.fits g.fits c.requires
