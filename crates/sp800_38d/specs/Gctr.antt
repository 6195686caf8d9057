-- NIST SP 800-38D, section 6.5: GCTR_K, algorithm 3, with AES as the block cipher CIPH_K.
use Rattle.std.specs.Prelude.{ℕ, zero, suc, ◌/◌, ◌%◌, List, length}
use Rattle.std.specs.Int.Bits.{bit_xor}
use Rattle.octets.specs.Numbers.{oct}
use Rattle.octets.specs.Generate.{gen}
use Rattle.fips197.specs.Cipher.{cipher}
use Rattle.sp800_38d.specs.Increment.{inc32}

-- steps 4 and 5: CB_1 = ICB, the initial counter block, and CB_(j+1) = inc_32(CB_j); here CB_(j+1) by j
unfoldable pub counter_block : List ℕ → ℕ → List ℕ
counter_block icb zero = icb
counter_block icb (suc j) = inc32 (counter_block icb j)

-- octet i of CIPH_K(CB_1) || CIPH_K(CB_2) || ..
unfoldable pub key_stream : List ℕ → List ℕ → ℕ → ℕ
key_stream key icb i = oct (cipher key (counter_block icb (i / 16))) (i % 16)

-- GCTR_K(ICB, X), steps 6 to 8: the stream is added to X, as far as X goes; the last block may be partial
unfoldable pub gctr : List ℕ → List ℕ → List ℕ → List ℕ
gctr key icb x = gen (λ i. bit_xor (oct x i) (key_stream key icb i)) 0 (length x)
