-- What the samples share: the encryption part 00 to 13, the opened frame, a GSA_REKEY with one Delete payload, and how octets of at most
-- one block are sealed, from enciphered counter blocks and a hash that are known.
use mathlib.Core.Path.{◌≡◌, refl, ap, ◌∙◌}
use mathlib.Core.List.{List, [], ◌∷◌, ◌++◌}
use Prim.Native.Nat.{ℕ, zero, suc, ◌/◌, ◌%◌, ◌<◌, ◌≤◌}
use native.Mathlib.Omega.{arith}
use lib.Bits.{bit_xor}
use lib.ListN.{length, get_or, replicate}
use Rattle.octets.specs.Numbers.{oct, number, octets_of}
use Rattle.octets.specs.Generate.{gen}
use Rattle.octets.proofs.RoundTrip.{length-octets}
use Rattle.fips197.specs.Field.{xtimes, power}
use Rattle.fips197.specs.Sbox.{sbox}
use Rattle.fips197.specs.Expansion.{key_expansion, temp}
use Rattle.fips197.specs.Cipher.{cipher, cipher_with}
use Rattle.sp800_38d.specs.Increment.{inc32}
use Rattle.sp800_38d.specs.Ghash.{block_numbers, ghash}
use Rattle.sp800_38d.specs.Gctr.{counter_block, gctr}
use Rattle.sp800_38d.specs.Encryption.{hash_subkey, pre_counter_block, ciphertext, hash_input, tag, sealed}
use Rattle.sp800_38d.proofs.Computing.{hash_by, hash-by, by_blocks}
use Rattle.rfc5282.specs.Keys.{aes_key_of}

abbrev pub part : List ℕ
part =
    0x00 ∷ 0x01 ∷ 0x02 ∷ 0x03 ∷ 0x04 ∷ 0x05 ∷ 0x06 ∷ 0x07 ∷ 0x08 ∷ 0x09 ∷ 0x0a ∷ 0x0b ∷ 0x0c ∷ 0x0d ∷ 0x0e ∷ 0x0f ∷
    0x10 ∷ 0x11 ∷ 0x12 ∷ 0x13 ∷ []

abbrev pub opened : List ℕ
opened =
    0xa0 ∷ 0xa1 ∷ 0xa2 ∷ 0xa3 ∷ 0xa4 ∷ 0xa5 ∷ 0xa6 ∷ 0xa7 ∷ 0xa8 ∷ 0xa9 ∷ 0xaa ∷ 0xab ∷ 0xac ∷ 0xad ∷ 0xae ∷ 0xaf ∷
    0x2a ∷ 0x20 ∷ 0x29 ∷ 0x00 ∷ 0x00 ∷ 0x00 ∷ 0x00 ∷ 0x07 ∷ 0x00 ∷ 0x00 ∷ 0x00 ∷ 0x28 ∷ 0x00 ∷ 0x00 ∷ 0x00 ∷ 0x0c ∷
    0x03 ∷ 0x04 ∷ 0x00 ∷ 0x01 ∷ 0x11 ∷ 0x22 ∷ 0x33 ∷ 0x44 ∷ []

abbrev pub key : List ℕ
key = aes_key_of part

abbrev pub subkey : ℕ
subkey = 0xc6a13b37878f5b826f4f8162a1c8d879

subkey-is : cipher key (replicate 16 0) ≡
    0xc6 ∷ 0xa1 ∷ 0x3b ∷ 0x37 ∷ 0x87 ∷ 0x8f ∷ 0x5b ∷ 0x82 ∷ 0x6f ∷ 0x4f ∷ 0x81 ∷ 0x62 ∷ 0xa1 ∷ 0xc8 ∷ 0xd8 ∷ 0x79 ∷ []
unfolding cipher cipher_with key_expansion temp power xtimes sbox
subkey-is = refl

one_block : (icb b : List ℕ) → cipher key icb ≡ b → (j : ℕ) → j < 1 → cipher key (counter_block icb j) ≡ get_or (b ∷ []) j []
unfolding counter_block
one_block icb b e zero l = e
one_block icb b e (suc j) l = absurd (omega (arith, l))

-- octets under one block of the key stream
abbrev pub under : List ℕ → List ℕ → List ℕ
under b x = gen (λ i. bit_xor (oct x i) (oct (get_or (b ∷ []) (i / 16) []) (i % 16))) 0 (length x)

-- the hash of additional data and ciphertext
abbrev pub hash_of : List ℕ → List ℕ → ℕ
hash_of a c = hash_by subkey 0 (block_numbers (length (hash_input a c) / 16) (hash_input a c))

module _ (nonce a plain text mark tag_stream text_stream : List ℕ) (hash : ℕ) (l : length plain ≤ 16)
    (tag-stream : cipher key (pre_counter_block nonce) ≡ tag_stream) (text-stream : cipher key (inc32 (pre_counter_block nonce)) ≡ text_stream)
    (text-is : under text_stream plain ≡ text) (hash-is : hash_of a text ≡ hash) (mark-is : under tag_stream (octets_of 16 hash) ≡ mark) where
  text-made : ciphertext key nonce plain ≡ text
  unfolding ciphertext
  text-made =
      by_blocks key (inc32 (pre_counter_block nonce)) plain (text_stream ∷ [])
      (one_block (inc32 (pre_counter_block nonce)) text_stream text-stream) l
      ∙ text-is

  hash-made : ghash subkey (hash_input a text) ≡ hash
  unfolding ghash
  hash-made = hash-by subkey 0 (block_numbers (length (hash_input a text) / 16) (hash_input a text)) ∙ hash-is

  tag-made : tag key nonce a text ≡ mark
  unfolding tag hash_subkey number
  tag-made =
      ap (λ (b : List ℕ). gctr key (pre_counter_block nonce) (octets_of 16 (ghash (number 16 b) (hash_input a text)))) subkey-is
      ∙ ap (λ (n : ℕ). gctr key (pre_counter_block nonce) (octets_of 16 n)) hash-made
      ∙ by_blocks key (pre_counter_block nonce) (octets_of 16 hash) (tag_stream ∷ [])
      (one_block (pre_counter_block nonce) tag_stream tag-stream) (omega (arith, length-octets 16 hash))
      ∙ mark-is

  pub sealed-by : sealed key nonce a plain ≡ text ++ mark
  unfolding sealed
  sealed-by = ap (λ (x : List ℕ). x ++ tag key nonce a x) text-made ∙ ap (λ (x : List ℕ). text ++ x) tag-made
