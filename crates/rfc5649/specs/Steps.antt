-- RFC 3394, section 2.2.1, "Key Wrap", in its index form, over the registers A, R[1], .., R[n]: a list of n + 1 numbers of 64 bits, A at
-- index 0.
use Rattle.std.specs.Prelude.{ℕ, zero, suc, ◌+◌, ◌*◌, List, ◌++◌, get_or, set, drop}
use Rattle.std.specs.Int.Bits.{bit_xor}
use Rattle.octets.specs.Numbers.{number, octets_of}
use Rattle.fips197.specs.Cipher.{cipher}

-- A at index 0, R[i] at index i
abbrev pub register : List ℕ → ℕ → ℕ
register s i = get_or s i 0

-- a | r: the concatenation of two registers, a block of 16 octets (section 2.1, "B1 | B2")
abbrev pub join_registers : ℕ → ℕ → List ℕ
join_registers a r = octets_of 8 a ++ octets_of 8 r

-- MSB(64, B) and LSB(64, B) of a block
abbrev pub msb64 : List ℕ → ℕ
msb64 b = number 8 b

abbrev pub lsb64 : List ℕ → ℕ
lsb64 b = number 8 (drop 8 b)

-- "A = MSB(64, B) ^ t", "R[i] = LSB(64, B)"
unfoldable pub stored : ℕ → ℕ → List ℕ → List ℕ → List ℕ
stored t i b s = set (set s 0 (bit_xor (msb64 b) t)) i (lsb64 b)

-- "B = AES(K, A | R[i])", then A and R[i] are stored from B
unfoldable pub step : List ℕ → ℕ → ℕ → List ℕ → List ℕ
step key t i s = stored t i (cipher key (join_registers (register s 0) (register s i))) s

-- "For i = 1 to n", with t = (n * j) + i; base is n * j
unfoldable pub row : List ℕ → ℕ → ℕ → List ℕ → List ℕ
row key base zero s = s
row key base (suc i) s = step key (base + suc i) (suc i) (row key base i s)

-- "For j = 0 to 5": the first j of them
unfoldable pub rows : List ℕ → ℕ → ℕ → List ℕ → List ℕ
rows key n zero s = s
rows key n (suc j) s = row key (n * j) n (rows key n j s)
