use Rattle.std.proofs.Common.{◌≡◌, drop}
use Rattle.lists.specs.Lists.{all}
use Rattle.state.specs.Held.{key_formed}
use Rattle.state.proofs.held.Held.each_formed.Given as goal

abbrev pub invariant-loop-k : goal.invariant-loop-k
invariant-loop-k l = all key_formed l.k-items ≡ all key_formed (drop l.k-index l.k-items)
