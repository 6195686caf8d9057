use mathlib.Core.Path.{◌≡◌}
use Prim.Native.Nat.{◌-◌, ◌<◌}
use Rattle.aes.specs.inner.Rounds.{rounds_up_to}
use Rattle.aes.proofs.rounds.run.Given as goal

abbrev pub invariant-loop-r : goal.invariant-loop-r
invariant-loop-r l = (l.n < 15) × (l.x ≡ rounds_up_to l.t l.k (l.r - 1) l.initial.x)
