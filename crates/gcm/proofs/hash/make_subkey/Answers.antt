use borrow.Author.Rules.{rules}
use mathlib.Core.Path.{subst}
use mir.Val.{Fits}
use mir.Syntax.{w64}
use Prim.Native.Nat.{ℕ}
use Rattle.gcm.specs.inner.Halves.{pair_number}
use Rattle.gcm.specs.inner.Multiples.{Multiples}
use Rattle.gcm.proofs.JoinLaws.{subkey-is}
use Rattle.gcm.proofs.hash.make_subkey.Goals as goal

-- `gcm::hash::make_subkey` meets its contract.

pub returns : goal.returns
unfolding pair_number
returns c = λ key e.
    let p = c.encrypt_pair-h in
    let h : Fits w64 p.result.hi = search rules in
    let l : Fits w64 p.result.lo = search rules in
    subst (λ (n : ℕ). Multiples n c.make_multiples.result)
    (subkey-is key p.result.hi p.result.lo h.fits l.fits (p.ensures key e))
    c.make_multiples.ensures
