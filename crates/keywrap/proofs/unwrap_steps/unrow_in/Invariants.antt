use mathlib.Core.Path.{◌≡◌}
use mathlib.Core.List.{List}
use Prim.Native.Nat.{ℕ}
use lib.ListN.{length}
use Rattle.aes.specs.inner.Schedule.{ExpandsInverse}
use Rattle.rfc5649.specs.inner.Unwrap.{unrow}
use Rattle.keywrap.proofs.unwrap_steps.unrow_in.Given as goal

abbrev pub invariant-loop-i : goal.invariant-loop-i
invariant-loop-i l =
    (length l.s ≡ length l.initial.s) × ((key : List ℕ) → ExpandsInverse key l.schedule → unrow key l.base l.i l.s ≡ unrow key l.base l.n l.initial.s)
