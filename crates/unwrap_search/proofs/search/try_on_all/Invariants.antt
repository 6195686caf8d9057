use Prim.Native.Nat.{ℕ}
use mathlib.Core.List.{List}
use lib.ListN.{length}
use Rattle.aes.specs.inner.Schedule.{ExpandsInverse}
use Rattle.wire_attributes.specs.Tree.{WrapKey}
use Rattle.unwrap_search.specs.inner.Entries.{Lists}
use Rattle.unwrap_search.proofs.Loops.{Partly}
use Rattle.unwrap_search.proofs.search.try_on_all.Given as goal

abbrev pub invariant-loop-i : goal.invariant-loop-i
invariant-loop-i it =
    (l : List WrapKey) (v : List ℕ) → Lists it.frame it.entries (length it.entries) l → ExpandsInverse v it.schedule.words →
    Partly it.id v it.size l it.initial.cells it.cells it.i
