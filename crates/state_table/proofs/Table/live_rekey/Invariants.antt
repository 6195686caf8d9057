use Rattle.std.proofs.Common.{◌≡◌, drop}
use Rattle.state_sa.specs.Entry.{live_rekey}
use Rattle.state_table.specs.Table.{the_one}
use Rattle.state_table.proofs.Table.live_rekey.Given as goal

abbrev pub invariant-loop-s : goal.invariant-loop-s
invariant-loop-s l = the_one (live_rekey) l.s-items ≡ the_one (live_rekey) (drop l.s-index l.s-items)
