use mathlib.Core.Path.{◌≡◌}
use mathlib.Core.List.{List}
use Prim.Native.Nat.{ℕ}
use lib.ListN.{length}
use Rattle.aes.specs.inner.Schedule.{ExpandsInverse}
use Rattle.rfc5649.specs.inner.Unwrap.{unrows}
use Rattle.keywrap.proofs.unwrap_steps.unrows_in.Given as goal

abbrev pub invariant-loop-j : goal.invariant-loop-j
invariant-loop-j l =
    (length l.s ≡ length l.initial.s) × ((key : List ℕ) → ExpandsInverse key l.schedule → unrows key l.n l.j l.s ≡ unrows key l.n 6 l.initial.s)
