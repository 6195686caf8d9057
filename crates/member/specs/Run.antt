-- A RUN OF THE PROGRAM: what it read from its input, and what it handed to its output.
use Rattle.std.specs.Prelude.{◌≡◌, ℕ, ◌-◌, ◌%◌, ◌^◌, ◌≤◌, true, List, [], ◌++◌, length}
use Rattle.member.specs.Program.{Prints}
use Rattle.member.specs.declared.Ran.{Ran}

-- how a run ends: the last read gave nothing, or 2^64 - 1 octets were read, and nothing of the output is held back; or a write failed
pub data RunEnds (r : Ran) (input rest : List ℕ) : Type 0 where
  input-ended : r.taken.ended ≡ true → rest ≡ [] → RunEnds r input rest
  most-read : 2 ^ 64 - 1 ≤ length input → rest ≡ [] → RunEnds r input rest
  write-failed : r.handed.failed ≡ true → RunEnds r input rest

-- `input` was read and `output` handed over, as many octets of each as were counted. `rest` was held back: `output` and `rest` together are
-- what the program prints for `input`
pub record Runs (r : Ran) : Type 0 where
  pub input : List ℕ
  pub output : List ℕ
  pub rest : List ℕ
  pub prints : Prints input (output ++ rest)
  pub taken : r.taken.count % 2 ^ 64 ≡ length input % 2 ^ 64
  pub handed : r.handed.count % 2 ^ 64 ≡ length output % 2 ^ 64
  pub ends : RunEnds r input rest
