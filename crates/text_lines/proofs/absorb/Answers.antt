use Rattle.text_lines.proofs.LineLaws.{takes-more, takes-newline, takes-end, ends-at}
use Rattle.text_lines.proofs.absorb.Goals as goal

-- `text_lines::absorb` meets its contract. The invariant: what was passed of the first line stands in the lent line.

pub returns-then-c-eq10 : goal.returns-then-c-eq10
returns-then-c-eq10 c = takes-newline c.loop-at.invariant c.loop-at-test.true c.if-c-eq10.true

pub loop-at-preserved : goal.loop-at-preserved
loop-at-preserved c =
    takes-more c.loop-at.invariant c.loop-at-test.true c.if-c-eq10.false c.put-held.ensures

pub returns : goal.returns
returns c =
    let l = c.loop-at in
    let h = c.loop-at-test.false in
    rw (ends-at l.invariant h l.auto.at-end _ c.max.ensures) (takes-end l.invariant h)
