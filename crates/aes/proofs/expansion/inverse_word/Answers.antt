use mathlib.Core.Path.{◌∙◌}
use Rattle.aes.proofs.Inverting.{early, middle, late}
use Rattle.aes.proofs.expansion.inverse_word.Goals as goal

-- `aes::expansion::inverse_word` meets its contract.

pub returns-then-j-lt4 : goal.returns-then-j-lt4
returns-then-j-lt4 c =
    let a = c.args in
    early a.t.now a.w.now a.n a.j c.if-j-lt4.true

pub returns-then-j-n : goal.returns-then-j-n
returns-then-j-n c =
    let a = c.args in
    c.unmix.ensures ∙ middle a.t.now a.w.now a.n a.j c.if-j-lt4.false c.if-j-n.true

pub returns : goal.returns
returns c =
    let a = c.args in
    late a.t.now a.w.now a.n a.j c.if-j-lt4.false c.if-j-n.false
