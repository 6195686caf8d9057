use mathlib.Core.Path.{ap, ◌∙◌}
use Prim.Native.Nat.{ℕ}
use borrow.Author.Rules.{rules}
use mir.Val.{Fits}
use mir.Syntax.{w64}
use Rattle.sp800_38d.specs.Product.{product}
use Rattle.gcm.specs.inner.Halves.{pair_number}
use Rattle.gcm.proofs.HashLaws.{added-blocks}
use Rattle.gcm.proofs.hash.hash_block.Goals as goal

-- `gcm::hash::hash_block` meets its contract.

pub returns : goal.returns
unfolding pair_number
returns c h m =
    let a = c.args in
    let f : Fits w64 a.z.lo = search rules in
    let g : Fits w64 a.x.lo = search rules in
    c.multiply.ensures h m ∙ ap (λ (n : ℕ). product n h) (added-blocks a.z.hi a.z.lo a.x.hi a.x.lo f.fits g.fits)
