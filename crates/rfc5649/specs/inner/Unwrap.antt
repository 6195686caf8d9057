-- Unwrapping: RFC 3394, section 2.2.2, in its index form, and the checks of RFC 5649, section 3. Inner: what a reader has to believe is
-- `Opens`.
use Rattle.std.specs.Prelude.{Bool, true, false, ◌&&◌, ◌≡◌, ℕ, zero, suc, ◌+◌, ◌*◌, ◌/◌, ◌%◌, List, [], ◌∷◌, eqb, length, take, drop}
use Rattle.std.specs.Int.Bits.{bit_xor}
use Rattle.octets.specs.Octets.{Octets}
use Rattle.fips197.specs.Cipher.{inv_cipher}
use Rattle.rfc5649.specs.Wrap.{blocks, registers, start_registers}
use Rattle.rfc5649.specs.Steps.{register, join_registers, stored, step, rows}

-- "B = AES-1(K, (A ^ t) | R[i])", "A = MSB(64, B)", "R[i] = LSB(64, B)"
unfoldable pub unstep : List ℕ → ℕ → ℕ → List ℕ → List ℕ
unstep key t i s = stored 0 i (inv_cipher key (join_registers (bit_xor (register s 0) t) (register s i))) s

-- "For i = n to 1"
unfoldable pub unrow : List ℕ → ℕ → ℕ → List ℕ → List ℕ
unrow key base zero s = s
unrow key base (suc i) s = unrow key base i (unstep key (base + suc i) (suc i) s)

-- "For j = 5 to 0": the last j of them
unfoldable pub unrows : List ℕ → ℕ → ℕ → List ℕ → List ℕ
unrows key n zero s = s
unrows key n (suc j) s = unrows key n j (unrow key (n * j) n s)

-- RFC 5649, section 4.1, step 2, on registers: by whether there is one block
abbrev pub forward_by : Bool → List ℕ → ℕ → List ℕ → List ℕ
forward_by true key n s = step key 0 1 s
forward_by false key n s = rows key n 6 s

unfoldable pub forward : List ℕ → ℕ → List ℕ → List ℕ
forward key n s = forward_by (eqb n 1) key n s

-- section 4.2, step 1, likewise
abbrev pub backward_by : Bool → List ℕ → ℕ → List ℕ → List ℕ
backward_by true key n s = unstep key 0 1 s
backward_by false key n s = unrows key n 6 s

unfoldable pub backward : List ℕ → ℕ → List ℕ → List ℕ
backward key n s = backward_by (eqb n 1) key n s

-- the first n + 1 registers of s are what unwrapping makes of the wrapped octets
abbrev pub Unwraps : List ℕ → ℕ → List ℕ → List ℕ → Type 0
Unwraps key n wrapped s = take (suc n) s ≡ backward key n (registers (suc n) wrapped)

-- RFC 5649, section 3, the checks: the registers s of n blocks are those from which the wrapping of the octets x starts
pub record Begins (n : ℕ) (s x : List ℕ) : Type 0 where
  pub octets : Octets x
  pub size : blocks (length x) ≡ n
  pub is : s ≡ start_registers x

-- m octets take n blocks
abbrev pub fits_blocks : ℕ → ℕ → Bool
fits_blocks n m = eqb (blocks m) n

-- the octet count in A; 0 where A is not the alternative initial value of a count that takes n blocks
abbrev pub count_by : Bool → Bool → ℕ → ℕ
count_by true true m = m
count_by true false m = 0
count_by false b m = 0

unfoldable pub count_in : ℕ → ℕ → ℕ
count_in a n = count_by (eqb (a / 4294967296) 0xa65959a6) (fits_blocks n (a % 4294967296)) (a % 4294967296)

-- each octet is 0
abbrev pub all_zero : List ℕ → Bool
all_zero [] = true
all_zero (x ∷ s) = eqb x 0 && all_zero s

-- each octet from an index on is 0
unfoldable pub zero_from : ℕ → List ℕ → Bool
zero_from at s = all_zero (drop at s)
