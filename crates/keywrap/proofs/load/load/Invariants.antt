use Prim.Native.Nat.{ℕ, ◌*◌}
use lib.ListN.{length, drop}
use Rattle.octets.specs.Numbers.{number}
use Rattle.octets.proofs.Fill.{StoredUpTo}
use Rattle.keywrap.proofs.load.load.Given as goal

abbrev pub invariant-loop-i : goal.invariant-loop-i
invariant-loop-i l = StoredUpTo (length l.initial.s) (λ (k : ℕ). number 8 (drop (8 * k) l.octets)) l.s l.i
