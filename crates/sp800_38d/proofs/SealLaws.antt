-- How long is what is sealed, that it is octets, and that it can be undone in one way at most.
use mathlib.Core.Path.{◌≡◌, sym, ap, ap₂, ◌∙◌}
use Prim.Native.Nat.{ℕ, ◌+◌}
use mathlib.Core.List.{List, [], ◌∷◌}
use native.Mathlib.Omega.{arith}
use lib.ListN.{length, take, length-append}
use lib.Seq.{take-append_seam}
use Rattle.octets.specs.Numbers.{octets_of}
use Rattle.octets.specs.Octets.{Octets}
use Rattle.octets.proofs.Octets.{join-octets}
use Rattle.octets.proofs.RoundTrip.{length-octets, octets-octets}
use Rattle.fips197.specs.Key.{Key}
use Rattle.fips197.specs.Block.{Block}
use Rattle.sp800_38d.specs.Increment.{inc32}
use Rattle.sp800_38d.specs.Ghash.{ghash}
use Rattle.sp800_38d.specs.Encryption.{hash_subkey, pre_counter_block, ciphertext, hash_input, tag, sealed}
use Rattle.sp800_38d.specs.Decryption.{plaintext, Unseals}
use Rattle.sp800_38d.proofs.GctrLaws.{length-gctr, gctr-twice, inc-block, gctr-octets}

module _ (key nonce : List ℕ) where
  pub length-text : (x : List ℕ) → length (ciphertext key nonce x) ≡ length x
  unfolding ciphertext
  length-text x = length-gctr key (inc32 (pre_counter_block nonce)) x

  -- the plaintext of the ciphertext, and the other way round
  pub text-twice : (x : List ℕ) → plaintext key nonce (ciphertext key nonce x) ≡ x
  unfolding ciphertext
  text-twice x = gctr-twice key (inc32 (pre_counter_block nonce)) x

module _ (key nonce a : List ℕ) where
  pub length-tag : (c : List ℕ) → length (tag key nonce a c) ≡ 16
  unfolding tag
  length-tag c = length-gctr key (pre_counter_block nonce) (octets_of 16 s) ∙ length-octets 16 s
    where
      s : ℕ
      s = ghash (hash_subkey key) (hash_input a c)

  pub length-sealed : (x : List ℕ) → length (sealed key nonce a x) ≡ length x + 16
  unfolding sealed
  length-sealed x =
      length-append (ciphertext key nonce x) (tag key nonce a (ciphertext key nonce x))
      ∙ ap₂ (λ (m n : ℕ). m + n) (length-text key nonce x) (length-tag (ciphertext key nonce x))

  pub text_of : (x : List ℕ) → take (length x) (sealed key nonce a x) ≡ ciphertext key nonce x
  unfolding sealed
  text_of x =
      ap (λ (n : ℕ). take n (sealed key nonce a x)) (sym (length-text key nonce x))
      ∙ take-append_seam (ciphertext key nonce x) (tag key nonce a (ciphertext key nonce x))

  pub sealed-one : (x y : List ℕ) → sealed key nonce a x ≡ sealed key nonce a y → x ≡ y
  sealed-one x y e =
      sym (text-twice key nonce x)
      ∙ ap (plaintext key nonce) (sym (text_of x) ∙ ap₂ take same e ∙ text_of y)
      ∙ text-twice key nonce y
    where
      same : length x ≡ length y
      same =
          let s : length x + 16 ≡ length y + 16 = sym (length-sealed x) ∙ ap length e ∙ length-sealed y in
          omega (arith, s)

  -- what octets unseal to is determined
  pub unseals-one : (octets x y : List ℕ) → Unseals key nonce a octets x → Unseals key nonce a octets y → x ≡ y
  unseals-one octets x y u v = sealed-one x y (u.seals ∙ sym v.seals)

module _ (key nonce : List ℕ) (is : Key key) (size : length nonce ≡ 12) (small : Octets nonce) where
  pub pre-counter-block : Block (pre_counter_block nonce)
  unfolding pre_counter_block octets_of
  pre-counter-block =
      record {
        size = length-append nonce (0 ∷ 0 ∷ 0 ∷ 1 ∷ []) ∙ ap (λ (k : ℕ). k + 4) size;
        small = join-octets nonce (0 ∷ 0 ∷ 0 ∷ 1 ∷ []) small (octets-octets 4 1);
      }

  pub text-octets : (x : List ℕ) → Octets x → Octets (ciphertext key nonce x)
  unfolding ciphertext
  text-octets x o =
      gctr-octets key (inc32 (pre_counter_block nonce)) is (inc-block (pre_counter_block nonce) pre-counter-block) x o

  pub tag-octets : (a c : List ℕ) → Octets (tag key nonce a c)
  unfolding tag
  tag-octets a c = gctr-octets key (pre_counter_block nonce) is pre-counter-block (octets_of 16 s) (octets-octets 16 s)
    where
      s : ℕ
      s = ghash (hash_subkey key) (hash_input a c)
