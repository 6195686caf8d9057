-- NIST SP 800-38D, section 7.1: GCM-AE_K, authenticated encryption, algorithm 4, for an IV of 96 bits and a tag of 128. The RFCs call
-- this IV the nonce, and IV a part of it, so it is the nonce here.
use Rattle.std.specs.Prelude.{◌≡◌, ℕ, ◌+◌, ◌*◌, ◌-◌, ◌/◌, ◌^◌, ◌≤◌, List, [], ◌∷◌, ◌++◌, length, replicate}
use Rattle.octets.specs.Numbers.{number, octets_of}
use Rattle.fips197.specs.Cipher.{cipher}
use Rattle.sp800_38d.specs.Increment.{inc32}
use Rattle.sp800_38d.specs.Ghash.{ghash}
use Rattle.sp800_38d.specs.Gctr.{gctr}

-- the nonce and the tag, in octets
abbrev pub nonce_octets : ℕ
nonce_octets = 12

abbrev pub tag_octets : ℕ
tag_octets = 16

-- section 5.2.1.1: len(P) ≤ 2^39 - 256 and len(A) ≤ 2^64 - 1 bits, here in octets
abbrev pub most_text : ℕ
most_text = 2 ^ 36 - 32

abbrev pub most_data : ℕ
most_data = 2 ^ 61 - 1

-- the lengths that are supported, of a text of n octets
pub record Supported (nonce a : List ℕ) (n : ℕ) : Type 0 where
  pub nonce-size : length nonce ≡ nonce_octets
  pub data-most : length a ≤ most_data
  pub text-most : n ≤ most_text

-- step 1: H = CIPH_K(0^128), the hash subkey
unfoldable pub hash_subkey : List ℕ → ℕ
hash_subkey key = number 16 (cipher key (replicate 16 0))

-- step 2: J_0 = IV || 0^31 || 1, the pre-counter block
unfoldable pub pre_counter_block : List ℕ → List ℕ
pre_counter_block nonce = nonce ++ (0 ∷ 0 ∷ 0 ∷ 1 ∷ [])

-- step 3: C = GCTR_K(inc_32(J_0), P)
unfoldable pub ciphertext : List ℕ → List ℕ → List ℕ → List ℕ
ciphertext key nonce p = gctr key (inc32 (pre_counter_block nonce)) p

-- step 4, 0^u and 0^v: zeros up to a whole number of blocks, which is that of the blocks begun
abbrev pub blocks_in : ℕ → ℕ
blocks_in n = (n + 15) / 16

unfoldable pub padded_to_blocks : List ℕ → List ℕ
padded_to_blocks s = s ++ replicate (16 * blocks_in (length s) - length s) 0

-- step 5: A || 0^v || C || 0^u || [len(A)]_64 || [len(C)]_64, lengths in bits
unfoldable pub hash_input : List ℕ → List ℕ → List ℕ
hash_input a c = padded_to_blocks a ++ (padded_to_blocks c ++ (octets_of 8 (8 * length a) ++ octets_of 8 (8 * length c)))

-- steps 5 and 6: T = MSB_128(GCTR_K(J_0, S)), S = GHASH_H of that
unfoldable pub tag : List ℕ → List ℕ → List ℕ → List ℕ → List ℕ
tag key nonce a c = gctr key (pre_counter_block nonce) (octets_of tag_octets (ghash (hash_subkey key) (hash_input a c)))

-- step 7: (C, T), one behind the other
unfoldable pub sealed : List ℕ → List ℕ → List ℕ → List ℕ → List ℕ
sealed key nonce a p = ciphertext key nonce p ++ tag key nonce a (ciphertext key nonce p)
