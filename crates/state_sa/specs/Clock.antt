-- "The tick is the board's 32-bit millisecond counter."
use Rattle.std.specs.Prelude.{ℕ, ◌+◌, ◌-◌, ◌*◌, ◌%◌, ◌^◌, Bool, nat_le}

-- "(now − start) modulo 2^32"
abbrev pub elapsed : ℕ → ℕ → ℕ
elapsed now start = ((now + 2 ^ 32) - start) % 2 ^ 32

-- "is at least 1,000 × delay"
unfoldable pub elapsed_at_least : ℕ → ℕ → ℕ → Bool
elapsed_at_least now start seconds = nat_le (1000 * seconds) (elapsed now start)
