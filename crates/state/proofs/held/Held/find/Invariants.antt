use Rattle.std.proofs.Common.{◌≡◌, drop}
use Rattle.state.specs.Held.{key_with}
use Rattle.state.proofs.held.Held.find.Given as goal

abbrev pub invariant-loop-k : goal.invariant-loop-k
invariant-loop-k l = key_with l.id l.k-items ≡ key_with l.id (drop l.k-index l.k-items)
