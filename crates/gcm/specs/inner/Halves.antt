-- A block in two numbers of 64 bits. Inner.
use Rattle.std.specs.Prelude.{ℕ, ◌+◌, ◌*◌, ◌^◌}
use Rattle.aes.specs.declared.Pair.{Pair}

unfoldable pub pair_number : Pair → ℕ
pair_number b = b.hi * 2 ^ 64 + b.lo
