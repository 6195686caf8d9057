use native.Mathlib.Omega.{arith}
use Rattle.check_payloads.proofs.FrameLaws.{long}
use Rattle.receive.proofs.ConcludingLaws.{row_is}
use Rattle.receive.proofs.row_of.Goals as goal

pub bounds-s-18 : goal.bounds-s-18
bounds-s-18 c = omega (arith, long c.requires.0 c.args.s.now c.requires.1)

pub returns : goal.returns
returns c =
    λ profile f w.
    row_is profile c.args.s.now f c.wide.result c.exchange_of.result w
    c.wide.ensures.0 c.exchange_of.ensures
