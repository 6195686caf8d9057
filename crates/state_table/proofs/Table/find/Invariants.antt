use Rattle.std.proofs.Common.{◌≡◌, drop}
use Rattle.state_sa.specs.Entry.{named}
use Rattle.state_table.specs.Table.{the_one}
use Rattle.state_table.proofs.Table.find.Given as goal

abbrev pub invariant-loop-s : goal.invariant-loop-s
invariant-loop-s l = the_one (named l.protocol l.spi) l.s-items ≡ the_one (named l.protocol l.spi) (drop l.s-index l.s-items)
