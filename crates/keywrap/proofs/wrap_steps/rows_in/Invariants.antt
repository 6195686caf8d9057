use mathlib.Core.Path.{◌≡◌}
use mathlib.Core.List.{List}
use Prim.Native.Nat.{ℕ}
use lib.ListN.{length}
use Rattle.aes.specs.inner.Schedule.{Expands}
use Rattle.rfc5649.specs.Steps.{rows}
use Rattle.keywrap.proofs.wrap_steps.rows_in.Given as goal

abbrev pub invariant-loop-j : goal.invariant-loop-j
invariant-loop-j l =
    (length l.s ≡ length l.initial.s) × ((key : List ℕ) → Expands key l.schedule → l.s ≡ rows key l.n l.j l.initial.s)
