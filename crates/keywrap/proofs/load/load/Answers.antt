use mathlib.Core.Path.{sym, ◌∙◌}
use native.Mathlib.Omega.{arith}
use lib.ListN.{length}
use Rattle.octets.proofs.Fill.{all}
use Rattle.rfc5649.proofs.Registers.{registers-gen}
use Rattle.keywrap.proofs.load.load.Goals as goal

-- `keywrap::load::load` meets its contract.

pub returns : goal.returns
returns c =
    let a = c.args in
    all c.loop-i.invariant (omega (arith, c.loop-i.invariant.size)) ∙ sym (registers-gen (length a.s.now) 0 a.octets.now)
