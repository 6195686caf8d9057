use Rattle.std.proofs.Common.{arith}
use Rattle.text_lines.proofs.ProgramLaws.{absorbed-some}
use Rattle.trace.proofs.input.take_block.Goals as goal

pub loop-at-smaller-then-a : goal.loop-at-smaller-then-a
loop-at-smaller-then-a g c =
    let h = c.loop-at-test.true in
    omega (arith, h, absorbed-some c.absorb-a.ensures h)

pub loop-at-smaller : goal.loop-at-smaller
loop-at-smaller g c =
    let h = c.loop-at-test.true in
    omega (arith, h, absorbed-some c.absorb-a.ensures h)
