use mathlib.Core.Path.{◌≡◌}
use lib.ListN.{length}
use Rattle.state_keys.specs.Limits.{limits}
use Rattle.state_table.specs.Table.{retired_if}
use Rattle.wire_frames.specs.Delete.{delete_of}
use Rattle.apply.specs.inner.Tables.{named_in}
use Rattle.apply.proofs.Turns.{Turned}
use Rattle.apply.proofs.retiring.retire_spis.Given as goal

abbrev pub invariant-loop-i : goal.invariant-loop-i
invariant-loop-i l =
    (length l.initial.sas ≡ limits.sas) × (length l.sas ≡ limits.sas) ×
    Turned (retired_if (named_in (delete_of l.o).spis) l.tick l.delay) l.initial.sas l.sas l.i
