use Prim.Native.Nat.{◌*◌, ◌/◌, ◌-◌, ◌^◌}
use native.Mathlib.Omega.{arith}
use borrow.Author.Rules.{rules}
use mir.Val.{Fits}
use mir.Syntax.{w64}
use Rattle.gcm.specs.inner.Halves.{pair_number}
use Rattle.gcm.proofs.DigitLaws.{first-digits, last_digits, digit-small}
use Rattle.gcm.proofs.product.digit_at.Goals as goal

-- `gcm::product::digit_at` meets its contract.

pub returns-then-n-lt16 : goal.returns-then-n-lt16
unfolding pair_number
returns-then-n-lt16 c =
    let a = c.args in
    let f : Fits w64 a.x.lo = search rules in
    (first-digits a.x.hi a.x.lo f.fits a.n (omega arith), digit-small (a.x.hi / 2 ^ (60 - 4 * a.n)))

pub returns : goal.returns
unfolding pair_number
returns c =
    let a = c.args in
    let f : Fits w64 a.x.lo = search rules in
    (last_digits a.x.hi a.x.lo f.fits a.n (omega arith) (omega arith), digit-small (a.x.lo / 2 ^ (124 - 4 * a.n)))
