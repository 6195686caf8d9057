-- NIST SP 800-38D, section 6.2: the incrementing function inc_s, for s = 32, on a block of 16 octets.
use Rattle.std.specs.Prelude.{ℕ, ◌+◌, ◌%◌, ◌^◌, List, ◌++◌, take, drop}
use Rattle.octets.specs.Numbers.{number, octets_of}

-- inc_32(X) = MSB_96(X) || [int(LSB_32(X)) + 1 mod 2^32]_32
unfoldable pub inc32 : List ℕ → List ℕ
inc32 x = take 12 x ++ octets_of 4 ((number 4 (drop 12 x) + 1) % 2 ^ 32)
