use Prim.Native.Nat.{◌≤◌}
use mathlib.Core.Path.{◌≡◌}
use lib.ListN.{length}
use Rattle.state_keys.specs.Limits.{limits}
use Rattle.state_table.proofs.Laws.{Testing}
use Rattle.state_table.proofs.Table.is_formed.Given as goal

abbrev pub invariant-loop-i : goal.invariant-loop-i
invariant-loop-i l =
    (l.n ≡ l.self.count) × (l.i ≤ l.n) × (h : l.self.count ≤ limits.sas) ×
    (long : length l.self.sas ≡ limits.sas) × Testing limits l.self h long l.k l.i
