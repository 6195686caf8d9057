use Prim.Native.Nat.{◌≤◌}
use Rattle.aes.specs.inner.Expanding.{ExpandedTo, Placed}
use Rattle.aes.proofs.expansion.expand_words.Given as goal

abbrev pub invariant-loop-i : goal.invariant-loop-i
invariant-loop-i l = (4 ≤ l.nk) × (l.nk ≤ 8) × ExpandedTo l.key l.w l.i × Placed l.nk l.i l.p
