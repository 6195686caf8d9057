-- Octets taken from the standard input. No contract can name what a read reads: what is seen of it is the count of the octets, modulo 2^64,
-- and whether the last read gave none, which `next` alone sets (src/input.rt).
use Rattle.std.specs.Prelude.{◌≡◌, ℕ, ◌+◌, ◌%◌, ◌^◌, false, List, length, ◌==◌}
use Rattle.member.specs.declared.input.InputTaken.{InputTaken}

-- before the first read
abbrev pub nothing_taken : InputTaken
nothing_taken = record { count = 0; ended = false }

-- a read gave `octets`: they are counted, and `ended` says whether there are none
pub record TakenIn (t : InputTaken) (octets : List ℕ) (e : InputTaken) : Type 0 where
  pub count : e.count % 2 ^ 64 ≡ (t.count + length octets) % 2 ^ 64
  pub ended : e.ended ≡ (length octets == 0)
