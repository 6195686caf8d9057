-- The definitions at known values: inc_32, products, and test case 4 of McGrew and Viega, "The Galois/Counter Mode of Operation (GCM)",
-- appendix B: additional data, a text whose last block is partial, and a key of 128 bits.
use mathlib.Core.Path.{◌≡◌, refl, ap, ◌∙◌}
use mathlib.Core.List.{List, [], ◌∷◌, ◌++◌}
use Prim.Native.Nat.{ℕ, zero, suc, ◌+◌, ◌/◌, ◌^◌, ◌<◌}
use native.Mathlib.Omega.{arith}
use lib.Dec.{lit≤}
use lib.ListN.{length, get_or, replicate}
use Rattle.octets.specs.Numbers.{number, octets_of}
use Rattle.fips197.specs.Field.{xtimes, power}
use Rattle.fips197.specs.Sbox.{sbox}
use Rattle.fips197.specs.Expansion.{key_expansion, temp}
use Rattle.fips197.specs.Cipher.{cipher, cipher_with}
use Rattle.sp800_38d.specs.Increment.{inc32}
use Rattle.sp800_38d.specs.Product.{reduction, bit, shifted, product}
use Rattle.sp800_38d.specs.Ghash.{block_numbers, ghash}
use Rattle.sp800_38d.specs.Gctr.{counter_block, gctr}
use Rattle.sp800_38d.specs.Encryption.{hash_subkey, pre_counter_block, ciphertext, padded_to_blocks, hash_input, tag, sealed}
use Rattle.sp800_38d.proofs.Computing.{turns, by-turns, hash_by, hash-by, by_blocks}

-- ---- inc_32 counts in the last four octets alone

carried : inc32 (replicate 12 0xff ++ (0x00 ∷ 0x00 ∷ 0xff ∷ 0xff ∷ [])) ≡ replicate 12 0xff ++ (0x00 ∷ 0x01 ∷ 0x00 ∷ 0x00 ∷ [])
unfolding inc32 number octets_of
carried = refl

wrapped : inc32 (replicate 12 0xfe ++ replicate 4 0xff) ≡ replicate 12 0xfe ++ replicate 4 0x00
unfolding inc32 number octets_of
wrapped = refl

-- ---- zeros up to a whole number of blocks, and none behind whole blocks

zeros-behind : (padded_to_blocks [] ≡ []) × (padded_to_blocks (replicate 16 1) ≡ replicate 16 1)
    × (padded_to_blocks (replicate 17 1) ≡ replicate 17 1 ++ replicate 15 0)
unfolding padded_to_blocks
zeros-behind = (refl, refl, refl)

-- ---- products: x_0 stands for 1, x_1 for x, and so on

abbrev h : ℕ
h = 0xb83b533708bf535d0aa6e52980d53b78

-- 1 is neutral, on both sides
one_left : product (2 ^ 127) h ≡ h
unfolding turns shifted bit reduction
one_left = by-turns (2 ^ 127) h

one_right : product h (2 ^ 127) ≡ h
unfolding turns shifted bit reduction
one_right = by-turns h (2 ^ 127)

-- x^127 • x is x^128 = 1 + x + x^2 + x^7
power-128 : product 1 (2 ^ 126) ≡ 2 ^ 127 + 2 ^ 126 + 2 ^ 125 + 2 ^ 120
unfolding turns shifted bit reduction
power-128 = by-turns 1 (2 ^ 126)

-- test case 2: C • H, on both sides
case-2-left : product 0x0388dace60b6a392f328c2b971b2fe78 0x66e94bd4ef8a2c3b884cfa59ca342b2e ≡ 0x5e2ec746917062882c85b0685353deb7
unfolding turns shifted bit reduction
case-2-left = by-turns 0x0388dace60b6a392f328c2b971b2fe78 0x66e94bd4ef8a2c3b884cfa59ca342b2e

case-2-right : product 0x66e94bd4ef8a2c3b884cfa59ca342b2e 0x0388dace60b6a392f328c2b971b2fe78 ≡ 0x5e2ec746917062882c85b0685353deb7
unfolding turns shifted bit reduction
case-2-right = by-turns 0x66e94bd4ef8a2c3b884cfa59ca342b2e 0x0388dace60b6a392f328c2b971b2fe78

-- ---- test case 4

abbrev key : List ℕ
key =
    0xfe ∷ 0xff ∷ 0xe9 ∷ 0x92 ∷ 0x86 ∷ 0x65 ∷ 0x73 ∷ 0x1c ∷ 0x6d ∷ 0x6a ∷ 0x8f ∷ 0x94 ∷ 0x67 ∷ 0x30 ∷ 0x83 ∷ 0x08 ∷ []

abbrev nonce : List ℕ
nonce =
    0xca ∷ 0xfe ∷ 0xba ∷ 0xbe ∷ 0xfa ∷ 0xce ∷ 0xdb ∷ 0xad ∷ 0xde ∷ 0xca ∷ 0xf8 ∷ 0x88 ∷ []

abbrev a : List ℕ
a =
    0xfe ∷ 0xed ∷ 0xfa ∷ 0xce ∷ 0xde ∷ 0xad ∷ 0xbe ∷ 0xef ∷ 0xfe ∷ 0xed ∷ 0xfa ∷ 0xce ∷ 0xde ∷ 0xad ∷ 0xbe ∷ 0xef ∷
    0xab ∷ 0xad ∷ 0xda ∷ 0xd2 ∷ []

abbrev p : List ℕ
p =
    0xd9 ∷ 0x31 ∷ 0x32 ∷ 0x25 ∷ 0xf8 ∷ 0x84 ∷ 0x06 ∷ 0xe5 ∷ 0xa5 ∷ 0x59 ∷ 0x09 ∷ 0xc5 ∷ 0xaf ∷ 0xf5 ∷ 0x26 ∷ 0x9a ∷
    0x86 ∷ 0xa7 ∷ 0xa9 ∷ 0x53 ∷ 0x15 ∷ 0x34 ∷ 0xf7 ∷ 0xda ∷ 0x2e ∷ 0x4c ∷ 0x30 ∷ 0x3d ∷ 0x8a ∷ 0x31 ∷ 0x8a ∷ 0x72 ∷
    0x1c ∷ 0x3c ∷ 0x0c ∷ 0x95 ∷ 0x95 ∷ 0x68 ∷ 0x09 ∷ 0x53 ∷ 0x2f ∷ 0xcf ∷ 0x0e ∷ 0x24 ∷ 0x49 ∷ 0xa6 ∷ 0xb5 ∷ 0x25 ∷
    0xb1 ∷ 0x6a ∷ 0xed ∷ 0xf5 ∷ 0xaa ∷ 0x0d ∷ 0xe6 ∷ 0x57 ∷ 0xba ∷ 0x63 ∷ 0x7b ∷ 0x39 ∷ []

abbrev c : List ℕ
c =
    0x42 ∷ 0x83 ∷ 0x1e ∷ 0xc2 ∷ 0x21 ∷ 0x77 ∷ 0x74 ∷ 0x24 ∷ 0x4b ∷ 0x72 ∷ 0x21 ∷ 0xb7 ∷ 0x84 ∷ 0xd0 ∷ 0xd4 ∷ 0x9c ∷
    0xe3 ∷ 0xaa ∷ 0x21 ∷ 0x2f ∷ 0x2c ∷ 0x02 ∷ 0xa4 ∷ 0xe0 ∷ 0x35 ∷ 0xc1 ∷ 0x7e ∷ 0x23 ∷ 0x29 ∷ 0xac ∷ 0xa1 ∷ 0x2e ∷
    0x21 ∷ 0xd5 ∷ 0x14 ∷ 0xb2 ∷ 0x54 ∷ 0x66 ∷ 0x93 ∷ 0x1c ∷ 0x7d ∷ 0x8f ∷ 0x6a ∷ 0x5a ∷ 0xac ∷ 0x84 ∷ 0xaa ∷ 0x05 ∷
    0x1b ∷ 0xa3 ∷ 0x0b ∷ 0x39 ∷ 0x6a ∷ 0x0a ∷ 0xac ∷ 0x97 ∷ 0x3d ∷ 0x58 ∷ 0xe0 ∷ 0x91 ∷ []

abbrev t : List ℕ
t =
    0x5b ∷ 0xc9 ∷ 0x4f ∷ 0xbc ∷ 0x32 ∷ 0x21 ∷ 0xa5 ∷ 0xdb ∷ 0x94 ∷ 0xfa ∷ 0xe9 ∷ 0x5a ∷ 0xe7 ∷ 0x12 ∷ 0x1a ∷ 0x47 ∷ []

-- H, and the enciphered counter blocks from J_0 on
subkey-is : cipher key (replicate 16 0) ≡
    0xb8 ∷ 0x3b ∷ 0x53 ∷ 0x37 ∷ 0x08 ∷ 0xbf ∷ 0x53 ∷ 0x5d ∷ 0x0a ∷ 0xa6 ∷ 0xe5 ∷ 0x29 ∷ 0x80 ∷ 0xd5 ∷ 0x3b ∷ 0x78 ∷ []
unfolding cipher cipher_with key_expansion temp power xtimes sbox
subkey-is = refl

abbrev tag_stream : List ℕ
tag_stream =
    0x32 ∷ 0x47 ∷ 0x18 ∷ 0x4b ∷ 0x3c ∷ 0x4f ∷ 0x69 ∷ 0xa4 ∷ 0x4d ∷ 0xbc ∷ 0xd2 ∷ 0x28 ∷ 0x87 ∷ 0xbb ∷ 0xb4 ∷ 0x18 ∷ []

tag-stream-is : cipher key (pre_counter_block nonce) ≡ tag_stream
unfolding cipher cipher_with key_expansion temp power xtimes sbox pre_counter_block
tag-stream-is = refl

abbrev stream : List (List ℕ)
stream =
    (0x9b ∷ 0xb2 ∷ 0x2c ∷ 0xe7 ∷ 0xd9 ∷ 0xf3 ∷ 0x72 ∷ 0xc1 ∷ 0xee ∷ 0x2b ∷ 0x28 ∷ 0x72 ∷ 0x2b ∷ 0x25 ∷ 0xf2 ∷ 0x06 ∷ [])
    ∷ (0x65 ∷ 0x0d ∷ 0x88 ∷ 0x7c ∷ 0x39 ∷ 0x36 ∷ 0x53 ∷ 0x3a ∷ 0x1b ∷ 0x8d ∷ 0x4e ∷ 0x1e ∷ 0xa3 ∷ 0x9d ∷ 0x2b ∷ 0x5c ∷ [])
    ∷ (0x3d ∷ 0xe9 ∷ 0x18 ∷ 0x27 ∷ 0xc1 ∷ 0x0e ∷ 0x9a ∷ 0x4f ∷ 0x52 ∷ 0x40 ∷ 0x64 ∷ 0x7e ∷ 0xe5 ∷ 0x22 ∷ 0x1f ∷ 0x20 ∷ [])
    ∷ (0xaa ∷ 0xc9 ∷ 0xe6 ∷ 0xcc ∷ 0xc0 ∷ 0x07 ∷ 0x4a ∷ 0xc0 ∷ 0x87 ∷ 0x3b ∷ 0x9b ∷ 0xa8 ∷ 0x5d ∷ 0x90 ∷ 0x8b ∷ 0xd0 ∷ [])
    ∷ []

abbrev icb : List ℕ
icb = inc32 (pre_counter_block nonce)

block_2 : cipher key (counter_block icb 0) ≡ get_or stream 0 []
unfolding cipher cipher_with key_expansion temp power xtimes sbox pre_counter_block inc32 counter_block number octets_of
block_2 = refl

block_3 : cipher key (counter_block icb 1) ≡ get_or stream 1 []
unfolding cipher cipher_with key_expansion temp power xtimes sbox pre_counter_block inc32 counter_block number octets_of
block_3 = refl

block_4 : cipher key (counter_block icb 2) ≡ get_or stream 2 []
unfolding cipher cipher_with key_expansion temp power xtimes sbox pre_counter_block inc32 counter_block number octets_of
block_4 = refl

block_5 : cipher key (counter_block icb 3) ≡ get_or stream 3 []
unfolding cipher cipher_with key_expansion temp power xtimes sbox pre_counter_block inc32 counter_block number octets_of
block_5 = refl

known : (j : ℕ) → j < 4 → cipher key (counter_block icb j) ≡ get_or stream j []
known zero l = block_2
known (suc zero) l = block_3
known (suc (suc zero)) l = block_4
known (suc (suc (suc zero))) l = block_5
known (suc (suc (suc (suc j)))) l = absurd (omega (arith, l))

text-is : ciphertext key nonce p ≡ c
unfolding ciphertext
text-is = by_blocks key icb p stream known (lit≤ tt)

hash-is : ghash h (hash_input a c) ≡ 0x698e57f70e6ecc7fd9463b7260a9ae5f
unfolding ghash hash_by block_numbers hash_input padded_to_blocks turns shifted bit reduction number octets_of
hash-is = hash-by h 0 (block_numbers (length (hash_input a c) / 16) (hash_input a c))

known-first : (j : ℕ) → j < 1 → cipher key (counter_block (pre_counter_block nonce) j) ≡ get_or (tag_stream ∷ []) j []
unfolding counter_block
known-first zero l = tag-stream-is
known-first (suc j) l = absurd (omega (arith, l))

tag_is : tag key nonce a c ≡ t
unfolding tag hash_subkey number octets_of
tag_is =
    ap (λ (b : List ℕ). gctr key (pre_counter_block nonce) (octets_of 16 (ghash (number 16 b) (hash_input a c)))) subkey-is
    ∙ ap (λ (n : ℕ). gctr key (pre_counter_block nonce) (octets_of 16 n)) hash-is
    ∙ by_blocks key (pre_counter_block nonce) (octets_of 16 0x698e57f70e6ecc7fd9463b7260a9ae5f) (tag_stream ∷ []) known-first (lit≤ tt)

-- C || T
pub case-4 : sealed key nonce a p ≡ c ++ t
unfolding sealed
case-4 = ap (λ (x : List ℕ). x ++ tag key nonce a x) text-is ∙ ap (λ (x : List ℕ). c ++ x) tag_is
