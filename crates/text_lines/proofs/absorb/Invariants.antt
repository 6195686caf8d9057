use Rattle.text_lines.proofs.LineLaws.{Takes}
use Rattle.text_lines.proofs.absorb.Given as goal

abbrev pub invariant-loop-at : goal.invariant-loop-at
invariant-loop-at l = Takes l.block l.from l.initial.line l.len l.line l.at l.held
