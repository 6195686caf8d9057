use Rattle.std.proofs.Common.{◌≡◌, ◌+◌, ◌≤◌, drop}
use Rattle.lists.specs.Lists.{count}
use Rattle.state_table.specs.Table.{stays}
use Rattle.state_table.proofs.Table.count_standing.Given as goal

abbrev pub invariant-loop-s : goal.invariant-loop-s
invariant-loop-s l = (l.k ≤ l.s-index) × (count (stays l.tick) l.s-items ≡ count (stays l.tick) (drop l.s-index l.s-items) + l.k)
