use Prim.Native.Nat.{◌≤◌}
use Rattle.aes.specs.inner.Expanding.{ExpandedTo}
use Rattle.aes.proofs.expansion.key_words.Given as goal

abbrev pub invariant-loop-j : goal.invariant-loop-j
invariant-loop-j l = (4 ≤ l.nk) × (l.nk ≤ 8) × ExpandedTo l.key l.w l.j
