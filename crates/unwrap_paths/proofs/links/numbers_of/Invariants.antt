use Rattle.std.proofs.Common.{◌≡◌, length}
use Rattle.state_keys.specs.Limits.{limits}
use Rattle.unwrap_paths.specs.inner.Links.{LinksAre}
use Rattle.unwrap_paths.proofs.links.numbers_of.Given as goal

abbrev pub invariant-loop-i : goal.invariant-loop-i
invariant-loop-i l =
    (length l.ids ≡ limits.wrap_keys) × (length l.kwks ≡ limits.wrap_keys) × (length l.marks ≡ limits.wrap_keys) ×
    LinksAre l.i (length l.entries) l.entries l.cells l.ids l.kwks l.marks
