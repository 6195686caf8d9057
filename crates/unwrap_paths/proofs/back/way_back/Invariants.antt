use Rattle.std.proofs.Common.{◌≡◌, ◌-◌, ◌<◌, ℕ, length}
use Rattle.octets.specs.Numbers.{oct}
use Rattle.state_keys.specs.Limits.{limits}
use Rattle.unwrap_paths.proofs.WayBack.{Ways}
use Rattle.unwrap_paths.proofs.back.way_back.Given as goal

abbrev pub invariant-loop-count : goal.invariant-loop-count
invariant-loop-count l =
    (length l.places ≡ limits.wrap_keys) × ((k : ℕ) → k < l.count → oct l.places k < l.n) ×
    Ways l.n l.ids l.kwks l.levels l.id l.level l.places l.count l.at (l.level - l.count)
