-- RFC 5649, "Advanced Encryption Standard (AES) Key Wrap with Padding Algorithm".
use Rattle.std.specs.Prelude.{Bool, true, false, ℕ, zero, suc, ◌+◌, ◌*◌, ◌-◌, ◌/◌, List, [], ◌∷◌, ◌++◌, eqb, length, drop, replicate}
use Rattle.octets.specs.Numbers.{number, octets_of}
use Rattle.fips197.specs.Cipher.{cipher}
use Rattle.rfc5649.specs.Steps.{rows}

-- section 3, the alternative initial value: A65959A6, then the message length indicator, the count of octets in 32 bits
abbrev pub initial_value : ℕ → ℕ
initial_value m = 0xa65959a6 * 4294967296 + m

-- n: the count of 64-bit blocks that m octets take with their padding
abbrev pub blocks : ℕ → ℕ
blocks m = (m + 7) / 8

-- section 4.1, step 1: the octets are padded on the right with zeros, up to a multiple of 8
unfoldable pub pad_to_blocks : List ℕ → List ℕ
pad_to_blocks x = x ++ replicate (8 * blocks (length x) - length x) 0

-- the first n 64-bit blocks of s as registers
unfoldable pub registers : ℕ → List ℕ → List ℕ
registers zero s = []
registers (suc n) s = number 8 s ∷ registers n (drop 8 s)

-- the octets of registers, one after the other
unfoldable pub register_octets : List ℕ → List ℕ
register_octets [] = []
register_octets (r ∷ s) = octets_of 8 r ++ register_octets s

-- the initial value and the padded octets as registers, before the steps
unfoldable pub start_registers : List ℕ → List ℕ
start_registers x = initial_value (length x) ∷ registers (blocks (length x)) (pad_to_blocks x)

-- section 4.1, step 2, by whether the padded octets are exactly eight
abbrev pub wrap_by : Bool → List ℕ → List ℕ → List ℕ
-- the initial value stands before them, and the one block of 128 bits is enciphered
wrap_by true key x = cipher key (octets_of 8 (initial_value (length x)) ++ pad_to_blocks x)
-- the steps of RFC 3394, section 2.2.1, from this initial value on
wrap_by false key x = register_octets (rows key (blocks (length x)) 6 (start_registers x))

-- the wrapped octets
unfoldable pub wrap_of : List ℕ → List ℕ → List ℕ
wrap_of key x = wrap_by (eqb (blocks (length x)) 1) key x
