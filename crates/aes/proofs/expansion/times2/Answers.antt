use mathlib.Core.Path.{ap}
use Prim.Native.Nat.{ℕ, ◌*◌, ◌%◌}
use native.Mathlib.Omega.{arith}
use lib.Bits.{bit_xor}
use Rattle.fips197.specs.Field.{xtimes}
use Rattle.aes.proofs.expansion.times2.Goals as goal

-- `aes::expansion::times2` meets its contract.

pub returns : goal.returns
unfolding xtimes
returns c = ap (λ (n : ℕ). bit_xor (c.args.x * 2 % 256) (27 * n)) (omega arith)
