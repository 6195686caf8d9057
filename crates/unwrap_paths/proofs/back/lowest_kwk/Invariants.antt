use Rattle.unwrap_paths.specs.inner.Code.{Picks}
use Rattle.unwrap_paths.proofs.back.lowest_kwk.Given as goal

abbrev pub invariant-loop-i : goal.invariant-loop-i
invariant-loop-i l = Picks l.i-counter l.ids l.kwks l.levels l.id l.level l.found
