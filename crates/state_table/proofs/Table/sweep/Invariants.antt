use Prim.Native.Nat.{◌≤◌}
use mathlib.Core.Path.{◌≡◌}
use lib.ListN.{length}
use Rattle.state_keys.specs.Limits.{limits}
use Rattle.lists.proofs.Sift.{Keeping}
use Rattle.state_sa.specs.Entry.{blank_sa}
use Rattle.state_table.specs.Table.{stays}
use Rattle.state_table.proofs.Table.sweep.Given as goal

abbrev pub invariant-loop-i : goal.invariant-loop-i
invariant-loop-i l =
    (l.n ≤ limits.sas) × (length l.self.sas ≡ limits.sas) × (l.i ≤ l.n) × Keeping limits.sas blank_sa (stays l.tick) l.self.sas l.n l.out l.k l.i
