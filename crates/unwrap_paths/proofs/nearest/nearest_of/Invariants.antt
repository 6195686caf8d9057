use Rattle.std.proofs.Common.{◌+◌}
use Rattle.unwrap_paths.specs.inner.Nearest.{NearestOf}
use Rattle.unwrap_paths.proofs.nearest.nearest_of.Given as goal

abbrev pub invariant-loop-kwk : goal.invariant-loop-kwk
invariant-loop-kwk l = NearestOf l.links.count l.links.ids l.links.levels (l.kwk-index + 1) l.kwks l.best
