use Rattle.unwrap_paths.specs.inner.Code.{HasLevel}
use Rattle.unwrap_paths.proofs.back.level_of.Given as goal

abbrev pub invariant-loop-i : goal.invariant-loop-i
invariant-loop-i l = HasLevel l.i l.ids l.levels l.id l.found
