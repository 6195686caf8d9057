use mathlib.Core.Path.{◌≡◌}
use mathlib.Core.List.{List}
use Prim.Native.Nat.{ℕ}
use lib.ListN.{length}
use Rattle.aes.specs.inner.Schedule.{Expands}
use Rattle.rfc5649.specs.Steps.{row}
use Rattle.keywrap.proofs.wrap_steps.row_in.Given as goal

abbrev pub invariant-loop-i : goal.invariant-loop-i
invariant-loop-i l =
    (length l.s ≡ length l.initial.s) × ((key : List ℕ) → Expands key l.schedule → l.s ≡ row key l.base l.i l.initial.s)
