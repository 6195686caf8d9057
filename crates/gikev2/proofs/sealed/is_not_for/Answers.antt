use mathlib.Core.Path.{◌∙◌}
use Rattle.wire_frames.specs.Header.{header_of}
use Rattle.gikev2.proofs.SealedLaws.{other-exchange, rekey-exchange}
use Rattle.gikev2.proofs.sealed.is_not_for.Goals as goal

-- `gikev2::sealed::is_not_for` meets its contract.

pub returns-then-exchange-ne-GSA_REKEY : goal.returns-then-exchange-ne-GSA_REKEY
returns-then-exchange-ne-GSA_REKEY c =
    let a = c.args in
    other-exchange a.state a.tick (header_of a.frame.now) (λ e. c.if-exchange-ne-GSA_REKEY.true (c.wide-exchange.ensures.0 ∙ e))

pub returns : goal.returns
returns c =
    let a = c.args in
    rekey-exchange a.state a.tick (header_of a.frame.now) c.number_2.result c.wide-exchange.result
    c.wide-exchange.ensures.0 c.if-exchange-ne-GSA_REKEY.false c.number_2.ensures
