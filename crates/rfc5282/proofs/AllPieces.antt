-- Two fragments of the sample frame, cut behind 5 octets and sealed by the definitions: IVs 1 and 2, critical bit 0, no padding. The sealed
-- octets were computed with OpenSSL.
use mathlib.Core.Path.{◌≡◌, refl, ap, ◌∙◌}
use mathlib.Core.Bool.{true, false}
use mathlib.Core.List.{List, [], ◌∷◌, ◌++◌}
use Prim.Native.Nat.{ℕ}
use lib.Dec.{lit≤}
use lib.ListN.{set, take, drop}
use Rattle.octets.specs.Numbers.{number, octets_of}
use Rattle.fips197.specs.Field.{xtimes, power}
use Rattle.fips197.specs.Sbox.{sbox}
use Rattle.fips197.specs.Expansion.{key_expansion, temp}
use Rattle.fips197.specs.Cipher.{cipher, cipher_with}
use Rattle.sp800_38d.specs.Increment.{inc32}
use Rattle.sp800_38d.specs.Product.{reduction, bit, shifted}
use Rattle.sp800_38d.specs.Ghash.{block_numbers}
use Rattle.sp800_38d.specs.Encryption.{pre_counter_block, padded_to_blocks, hash_input, sealed}
use Rattle.sp800_38d.proofs.Computing.{turns, hash_by}
use Rattle.rfc5282.specs.Sizes.{fragment_body_at}
use Rattle.rfc5282.specs.Keys.{aes_key_of, salt_of, sealed_in, nonce_for, additional_in}
use Rattle.rfc5282.specs.SealedFrame.{Choice, header_with, with_padding, body_size, sealed_behind}
use Rattle.rfc5282.specs.SealedFragment.{fragment_additional, sealed_fragment}
use Rattle.rfc5282.specs.Outer.{alone, outer}
use Rattle.rfc5282.specs.OuterFragment.{number_in, total_in, next_in, outer_fragment}
use Rattle.rfc5282.proofs.AllComputed.{part, opened, key, hash_of, sealed-by}

abbrev header : List ℕ
header = take 28 opened

-- ---- the first: its next payload is that of the first payload in the piece
abbrev pub piece1 : List ℕ
piece1 = 0x00 ∷ 0x00 ∷ 0x00 ∷ 0x0c ∷ 0x03 ∷ []

abbrev pub choice1 : Choice
choice1 = record { reserved = 0; iv = 0 ∷ 0 ∷ 0 ∷ 0 ∷ 0 ∷ 0 ∷ 0 ∷ 1 ∷ []; padding = [] }

abbrev headers1 : List ℕ
headers1 =
    0xa0 ∷ 0xa1 ∷ 0xa2 ∷ 0xa3 ∷ 0xa4 ∷ 0xa5 ∷ 0xa6 ∷ 0xa7 ∷ 0xa8 ∷ 0xa9 ∷ 0xaa ∷ 0xab ∷ 0xac ∷ 0xad ∷ 0xae ∷ 0xaf ∷
    0x35 ∷ 0x20 ∷ 0x29 ∷ 0x00 ∷ 0x00 ∷ 0x00 ∷ 0x00 ∷ 0x07 ∷ 0x00 ∷ 0x00 ∷ 0x00 ∷ 0x42 ∷ 0x2a ∷ 0x00 ∷ 0x00 ∷ 0x26 ∷
    0x00 ∷ 0x01 ∷ 0x00 ∷ 0x02 ∷ []

abbrev text1 : List ℕ
text1 = 0x5e ∷ 0x46 ∷ 0xfa ∷ 0x9d ∷ 0xb8 ∷ 0x14 ∷ []

abbrev mark1 : List ℕ
mark1 =
    0x5a ∷ 0x89 ∷ 0xb9 ∷ 0xa3 ∷ 0x8a ∷ 0x37 ∷ 0x62 ∷ 0x11 ∷ 0xe4 ∷ 0x84 ∷ 0x8f ∷ 0xc0 ∷ 0xa2 ∷ 0x6d ∷ 0x39 ∷ 0x1e ∷ []

abbrev pub fragment1 : List ℕ
fragment1 = headers1 ++ (choice1.iv ++ (text1 ++ mark1))

abbrev nonce1 : List ℕ
nonce1 = salt_of part ++ choice1.iv

-- authenticated are the 36 octets before the IV
parts1 : (additional_in fragment_body_at fragment1 ≡ headers1) × (nonce_for fragment_body_at part fragment1 ≡ nonce1)
    × (sealed_in fragment_body_at fragment1 ≡ text1 ++ mark1)
parts1 = (refl, refl, refl)

headers1-are : fragment_additional header 0x2a 1 2 piece1 choice1 ≡ headers1
unfolding fragment_additional header_with body_size with_padding octets_of
headers1-are = refl

abbrev tag_stream1 : List ℕ
tag_stream1 =
    0x5b ∷ 0xad ∷ 0x22 ∷ 0x12 ∷ 0xde ∷ 0x23 ∷ 0x37 ∷ 0xee ∷ 0x93 ∷ 0xb2 ∷ 0xa2 ∷ 0x30 ∷ 0x78 ∷ 0xe3 ∷ 0x0a ∷ 0x52 ∷ []

tag-stream1 : cipher key (pre_counter_block nonce1) ≡ tag_stream1
unfolding cipher cipher_with key_expansion temp power xtimes sbox pre_counter_block
tag-stream1 = refl

abbrev text_stream1 : List ℕ
text_stream1 =
    0x5e ∷ 0x46 ∷ 0xfa ∷ 0x91 ∷ 0xbb ∷ 0x14 ∷ 0x2e ∷ 0x16 ∷ 0x3f ∷ 0x87 ∷ 0xad ∷ 0x4d ∷ 0x1a ∷ 0x84 ∷ 0xf2 ∷ 0xe6 ∷ []

text-stream1 : cipher key (inc32 (pre_counter_block nonce1)) ≡ text_stream1
unfolding cipher cipher_with key_expansion temp power xtimes sbox pre_counter_block inc32 number octets_of
text-stream1 = refl

abbrev hash1 : ℕ
hash1 = 0x1249bb1541455ff77362df0da8e334c

hash1-is : hash_of headers1 text1 ≡ hash1
unfolding hash_by block_numbers hash_input padded_to_blocks turns shifted bit reduction number octets_of
hash1-is = refl

sealed1 : sealed key nonce1 headers1 (with_padding piece1 choice1) ≡ text1 ++ mark1
unfolding with_padding octets_of
sealed1 =
    sealed-by nonce1 headers1 (with_padding piece1 choice1) text1 mark1 tag_stream1 text_stream1 hash1 (lit≤ tt) tag-stream1
    text-stream1 refl hash1-is refl

pub fragment1-sealed : sealed_fragment (aes_key_of part) (salt_of part) header 0x2a 1 2 piece1 choice1 ≡ fragment1
unfolding sealed_fragment sealed_behind
fragment1-sealed =
    let known = parts1 in
    ap (λ (a : List ℕ). a ++ (choice1.iv ++ sealed key nonce1 a (with_padding piece1 choice1))) headers1-are
    ∙ ap (λ (x : List ℕ). headers1 ++ (choice1.iv ++ x)) sealed1

-- ---- the second and last: its next payload says nothing
abbrev pub piece2 : List ℕ
piece2 = 0x04 ∷ 0x00 ∷ 0x01 ∷ 0x11 ∷ 0x22 ∷ 0x33 ∷ 0x44 ∷ []

abbrev pub choice2 : Choice
choice2 = record { reserved = 0; iv = 0 ∷ 0 ∷ 0 ∷ 0 ∷ 0 ∷ 0 ∷ 0 ∷ 2 ∷ []; padding = [] }

abbrev headers2 : List ℕ
headers2 =
    0xa0 ∷ 0xa1 ∷ 0xa2 ∷ 0xa3 ∷ 0xa4 ∷ 0xa5 ∷ 0xa6 ∷ 0xa7 ∷ 0xa8 ∷ 0xa9 ∷ 0xaa ∷ 0xab ∷ 0xac ∷ 0xad ∷ 0xae ∷ 0xaf ∷
    0x35 ∷ 0x20 ∷ 0x29 ∷ 0x00 ∷ 0x00 ∷ 0x00 ∷ 0x00 ∷ 0x07 ∷ 0x00 ∷ 0x00 ∷ 0x00 ∷ 0x44 ∷ 0x00 ∷ 0x00 ∷ 0x00 ∷ 0x28 ∷
    0x00 ∷ 0x02 ∷ 0x00 ∷ 0x02 ∷ []

abbrev text2 : List ℕ
text2 = 0x7c ∷ 0x35 ∷ 0xc1 ∷ 0x55 ∷ 0xe1 ∷ 0xde ∷ 0x4b ∷ 0xd0 ∷ []

abbrev mark2 : List ℕ
mark2 =
    0xbc ∷ 0x27 ∷ 0xe9 ∷ 0x21 ∷ 0x35 ∷ 0x33 ∷ 0x48 ∷ 0xa4 ∷ 0x0b ∷ 0x14 ∷ 0xf1 ∷ 0xff ∷ 0x25 ∷ 0x57 ∷ 0x7d ∷ 0x7b ∷ []

abbrev pub fragment2 : List ℕ
fragment2 = headers2 ++ (choice2.iv ++ (text2 ++ mark2))

abbrev nonce2 : List ℕ
nonce2 = salt_of part ++ choice2.iv

-- authenticated are the 36 octets before the IV
parts2 : (additional_in fragment_body_at fragment2 ≡ headers2) × (nonce_for fragment_body_at part fragment2 ≡ nonce2)
    × (sealed_in fragment_body_at fragment2 ≡ text2 ++ mark2)
parts2 = (refl, refl, refl)

headers2-are : fragment_additional header 0x00 2 2 piece2 choice2 ≡ headers2
unfolding fragment_additional header_with body_size with_padding octets_of
headers2-are = refl

abbrev tag_stream2 : List ℕ
tag_stream2 =
    0x90 ∷ 0x57 ∷ 0x84 ∷ 0xe5 ∷ 0x84 ∷ 0x1b ∷ 0x99 ∷ 0x96 ∷ 0x41 ∷ 0xd1 ∷ 0x91 ∷ 0xae ∷ 0x40 ∷ 0xd5 ∷ 0x25 ∷ 0xc1 ∷ []

tag-stream2 : cipher key (pre_counter_block nonce2) ≡ tag_stream2
unfolding cipher cipher_with key_expansion temp power xtimes sbox pre_counter_block
tag-stream2 = refl

abbrev text_stream2 : List ℕ
text_stream2 =
    0x78 ∷ 0x35 ∷ 0xc0 ∷ 0x44 ∷ 0xc3 ∷ 0xed ∷ 0x0f ∷ 0xd0 ∷ 0xf1 ∷ 0x16 ∷ 0xce ∷ 0x92 ∷ 0xd8 ∷ 0x9a ∷ 0xa4 ∷ 0x17 ∷ []

text-stream2 : cipher key (inc32 (pre_counter_block nonce2)) ≡ text_stream2
unfolding cipher cipher_with key_expansion temp power xtimes sbox pre_counter_block inc32 number octets_of
text-stream2 = refl

abbrev hash2 : ℕ
hash2 = 0x2c706dc4b128d1324ac56051658258ba

hash2-is : hash_of headers2 text2 ≡ hash2
unfolding hash_by block_numbers hash_input padded_to_blocks turns shifted bit reduction number octets_of
hash2-is = refl

sealed2 : sealed key nonce2 headers2 (with_padding piece2 choice2) ≡ text2 ++ mark2
unfolding with_padding octets_of
sealed2 =
    sealed-by nonce2 headers2 (with_padding piece2 choice2) text2 mark2 tag_stream2 text_stream2 hash2 (lit≤ tt) tag-stream2
    text-stream2 refl hash2-is refl

pub fragment2-sealed : sealed_fragment (aes_key_of part) (salt_of part) header 0x00 2 2 piece2 choice2 ≡ fragment2
unfolding sealed_fragment sealed_behind
fragment2-sealed =
    let known = parts2 in
    ap (λ (a : List ℕ). a ++ (choice2.iv ++ sealed key nonce2 a (with_padding piece2 choice2))) headers2-are
    ∙ ap (λ (x : List ℕ). headers2 ++ (choice2.iv ++ x)) sealed2

-- the two pieces are what follows the header
cut : piece1 ++ piece2 ≡ drop 28 opened
cut = refl

-- ---- the layout: both pass, with what their fields say; each of these does not

pass : (outer_fragment fragment1 ≡ true) × (outer_fragment fragment2 ≡ true)
unfolding outer_fragment alone number
pass = (refl, refl)

fields : (number_in fragment2 ≡ 2) × (total_in fragment2 ≡ 2) × (next_in fragment1 ≡ 0x2a) × (next_in fragment2 ≡ 0)
unfolding number
fields = (refl, refl, refl, refl)

-- an Encrypted payload, major version 1, a length of 3 or one over the end, number 0, a number above the total, a total of 0, a body of
-- three octets
break : (outer_fragment (set fragment2 16 0x2e) ≡ false) × (outer_fragment (set fragment2 17 0x1f) ≡ false)
    × (outer_fragment (set fragment2 31 0x03) ≡ false) × (outer_fragment (set fragment2 31 0x29) ≡ false)
    × (outer_fragment (set fragment2 33 0) ≡ false) × (outer_fragment (set fragment2 33 3) ≡ false)
    × (outer_fragment (set fragment2 35 0) ≡ false) × (outer_fragment (set (set (take 35 fragment2) 27 0x23) 31 0x07) ≡ false)
unfolding outer_fragment alone number
break = (refl, refl, refl, refl, refl, refl, refl, refl)

-- critical bit, a total of many and an empty body are free; the last is number 10
free : (outer_fragment (set fragment2 29 0xff) ≡ true) × (outer_fragment (set fragment2 34 0xff) ≡ true)
    × (outer_fragment (set (set (take 36 fragment2) 27 0x24) 31 0x08) ≡ true)
unfolding outer_fragment alone number
free = (refl, refl, refl)

-- a frame is no fragment, and a fragment no frame
apart : outer fragment2 ≡ false
unfolding outer alone number
apart = refl
