-- A frame sealed by the definitions: GSK_e 00 to 13, IV 01 to 08, critical bit 0, no padding; GSA_REKEY with one Delete payload. The sealed
-- octets were computed with OpenSSL.
use mathlib.Core.Path.{◌≡◌, refl, ap, ◌∙◌}
use mathlib.Core.Bool.{true, false}
use mathlib.Core.List.{List, [], ◌∷◌, ◌++◌}
use Prim.Native.Nat.{ℕ}
use lib.Dec.{lit≤}
use lib.ListN.{set, take, drop}
use Rattle.octets.specs.Numbers.{number, octets_of}
use Rattle.fips197.specs.Field.{xtimes, power}
use Rattle.fips197.specs.Sbox.{sbox}
use Rattle.fips197.specs.Expansion.{key_expansion, temp}
use Rattle.fips197.specs.Cipher.{cipher, cipher_with}
use Rattle.sp800_38d.specs.Increment.{inc32}
use Rattle.sp800_38d.specs.Product.{reduction, bit, shifted}
use Rattle.sp800_38d.specs.Ghash.{block_numbers}
use Rattle.sp800_38d.specs.Encryption.{pre_counter_block, padded_to_blocks, hash_input, sealed}
use Rattle.sp800_38d.proofs.Computing.{turns, hash_by}
use Rattle.rfc5282.specs.Sizes.{encrypted_body_at}
use Rattle.rfc5282.specs.Keys.{aes_key_of, salt_of, iv_in, sealed_in, nonce_for, additional_in}
use Rattle.rfc5282.specs.SealedFrame.{Choice, header_with, with_padding, body_size, sealed_behind, additional_of, sealed_frame}
use Rattle.rfc5282.specs.Outer.{alone, outer}
use Rattle.rfc5282.proofs.AllComputed.{part, opened, key, hash_of, sealed-by}

abbrev choice : Choice
choice = record { reserved = 0; iv = 0x01 ∷ 0x02 ∷ 0x03 ∷ 0x04 ∷ 0x05 ∷ 0x06 ∷ 0x07 ∷ 0x08 ∷ []; padding = [] }

-- the frame as it goes over the wire: the two headers, the IV, the ciphertext, the tag
abbrev headers : List ℕ
headers =
    0xa0 ∷ 0xa1 ∷ 0xa2 ∷ 0xa3 ∷ 0xa4 ∷ 0xa5 ∷ 0xa6 ∷ 0xa7 ∷ 0xa8 ∷ 0xa9 ∷ 0xaa ∷ 0xab ∷ 0xac ∷ 0xad ∷ 0xae ∷ 0xaf ∷
    0x2e ∷ 0x20 ∷ 0x29 ∷ 0x00 ∷ 0x00 ∷ 0x00 ∷ 0x00 ∷ 0x07 ∷ 0x00 ∷ 0x00 ∷ 0x00 ∷ 0x45 ∷ 0x2a ∷ 0x00 ∷ 0x00 ∷ 0x29 ∷ []

abbrev text : List ℕ
text =
    0x90 ∷ 0x56 ∷ 0x57 ∷ 0xac ∷ 0xd3 ∷ 0x39 ∷ 0xe7 ∷ 0xf0 ∷ 0x0c ∷ 0x9a ∷ 0x6a ∷ 0x8e ∷ 0xdd ∷ []

abbrev mark : List ℕ
mark =
    0xbf ∷ 0xd4 ∷ 0x1b ∷ 0x07 ∷ 0x46 ∷ 0x5b ∷ 0x77 ∷ 0xa8 ∷ 0x98 ∷ 0x84 ∷ 0x91 ∷ 0x3a ∷ 0x08 ∷ 0x2b ∷ 0xc2 ∷ 0x5c ∷ []

abbrev frame : List ℕ
frame = headers ++ (choice.iv ++ (text ++ mark))

-- ---- where its parts stand

parts_are : (additional_in encrypted_body_at frame ≡ headers) × (iv_in encrypted_body_at frame ≡ choice.iv)
    × (sealed_in encrypted_body_at frame ≡ text ++ mark)
parts_are = (refl, refl, refl)

key-is : (aes_key_of part ≡ 0 ∷ 1 ∷ 2 ∷ 3 ∷ 4 ∷ 5 ∷ 6 ∷ 7 ∷ 8 ∷ 9 ∷ 10 ∷ 11 ∷ 12 ∷ 13 ∷ 14 ∷ 15 ∷ [])
    × (salt_of part ≡ 16 ∷ 17 ∷ 18 ∷ 19 ∷ [])
key-is = (refl, refl)

-- ---- sealing

abbrev plain : List ℕ
plain = with_padding (drop 28 opened) choice

abbrev nonce : List ℕ
nonce = salt_of part ++ choice.iv

nonce-is : nonce_for encrypted_body_at part frame ≡ 16 ∷ 17 ∷ 18 ∷ 19 ∷ 1 ∷ 2 ∷ 3 ∷ 4 ∷ 5 ∷ 6 ∷ 7 ∷ 8 ∷ []
nonce-is = refl

headers-are : additional_of opened choice ≡ headers
unfolding additional_of header_with body_size with_padding octets_of
headers-are = refl

abbrev tag_stream : List ℕ
tag_stream =
    0x0c ∷ 0x3a ∷ 0xb3 ∷ 0x72 ∷ 0xdd ∷ 0xbc ∷ 0x84 ∷ 0x1b ∷ 0xc7 ∷ 0x5a ∷ 0x29 ∷ 0xb5 ∷ 0x95 ∷ 0xbb ∷ 0xd3 ∷ 0x66 ∷ []

tag-stream-is : cipher key (pre_counter_block nonce) ≡ tag_stream
unfolding cipher cipher_with key_expansion temp power xtimes sbox pre_counter_block
tag-stream-is = refl

abbrev text_stream : List ℕ
text_stream =
    0x90 ∷ 0x56 ∷ 0x57 ∷ 0xa0 ∷ 0xd0 ∷ 0x3d ∷ 0xe7 ∷ 0xf1 ∷ 0x1d ∷ 0xb8 ∷ 0x59 ∷ 0xca ∷ 0xdd ∷ 0x56 ∷ 0x82 ∷ 0x4c ∷ []

text-stream-is : cipher key (inc32 (pre_counter_block nonce)) ≡ text_stream
unfolding cipher cipher_with key_expansion temp power xtimes sbox pre_counter_block inc32 number octets_of
text-stream-is = refl

abbrev hash : ℕ
hash = 0xb3eea8759be7f3b35fdeb88f9d90113a

hash-is : hash_of headers text ≡ hash
unfolding hash_by block_numbers hash_input padded_to_blocks turns shifted bit reduction number octets_of
hash-is = refl

sealed-is : sealed key nonce headers plain ≡ text ++ mark
unfolding with_padding octets_of
sealed-is =
    sealed-by nonce headers plain text mark tag_stream text_stream hash (lit≤ tt) tag-stream-is text-stream-is refl hash-is refl

-- THE SAMPLE
pub sample-sealed : sealed_frame (aes_key_of part) (salt_of part) opened choice ≡ frame
unfolding sealed_frame sealed_behind
sample-sealed =
    let known = parts_are in
    let also = nonce-is in
    ap (λ (a : List ℕ). a ++ (choice.iv ++ sealed key nonce a plain)) headers-are
    ∙ ap (λ (x : List ℕ). headers ++ (choice.iv ++ x)) sealed-is

-- ---- number 1 on the outer layout: the frame passes, and each of these does not

passes : outer frame ≡ true
unfolding outer alone number
passes = refl

-- another length in the header, major version 1, an Encrypted Fragment, a length of 3 or one over the end, an octet behind it, the header
-- alone
breaks : (outer (set frame 27 0x46) ≡ false) × (outer (set frame 17 0x1f) ≡ false) × (outer (set frame 16 0x35) ≡ false)
    × (outer (set frame 31 0x03) ≡ false) × (outer (set frame 31 0x2a) ≡ false) × (outer (set (frame ++ (0 ∷ [])) 27 0x46) ≡ false)
    × (outer (set (take 28 frame) 27 0x1c) ≡ false)
unfolding outer alone number
breaks = (refl, refl, refl, refl, refl, refl, refl)

-- minor version, flags, critical bit and RESERVED are free; so is an empty body, which number 10 refuses
free : (outer (set frame 17 0x2f) ≡ true) × (outer (set frame 19 0xff) ≡ true) × (outer (set frame 29 0xff) ≡ true)
    × (outer (set (set (take 32 frame) 27 0x20) 31 0x04) ≡ true)
unfolding outer alone number
free = (refl, refl, refl, refl)
