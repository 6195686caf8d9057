-- GCTR octet by octet: it keeps the length, undoes itself, and gives octets.
use mathlib.Core.Path.{◌≡◌, sym, ap, ap₂, ◌∙◌, subst}
use Prim.Native.Nat.{ℕ, zero, suc, ◌+◌, ◌/◌, ◌%◌, ◌^◌, ◌<◌, ◌≤◌}
use mathlib.Core.List.{List}
use native.Mathlib.Nat.{zero-add}
use native.Mathlib.Omega.{arith}
use lib.ListN.{length, take, drop, length-append}
use lib.Seq.{length-take-le, get_or-take, ext_get_or}
use lib.Bits.{bit_xor, xor_lt}
use Rattle.octets.specs.Numbers.{oct, number, octets_of}
use Rattle.octets.specs.Octets.{Octets}
use Rattle.octets.specs.Generate.{gen}
use Rattle.octets.proofs.Generate.{length-gen, get_d-gen, gen-same, gen-all, gen-octets}
use Rattle.octets.proofs.Octets.{join-octets, take-octets}
use Rattle.octets.proofs.RoundTrip.{length-octets, octets-octets}
use Rattle.octets.proofs.Xor.{xor-twice}
use Rattle.fips197.specs.Key.{Key}
use Rattle.fips197.specs.Block.{Block}
use Rattle.fips197.specs.Cipher.{cipher}
use Rattle.fips197.proofs.Inverse.{cipher-block}
use Rattle.sp800_38d.specs.Increment.{inc32}
use Rattle.sp800_38d.specs.Gctr.{counter_block, key_stream, gctr}

module _ (key icb : List ℕ) where
  pub length-gctr : (x : List ℕ) → length (gctr key icb x) ≡ length x
  unfolding gctr
  length-gctr x = length-gen (length x) 0 (λ i. bit_xor (oct x i) (key_stream key icb i))

  -- the same stream twice is no stream
  pub gctr-twice : (x : List ℕ) → gctr key icb (gctr key icb x) ≡ x
  unfolding gctr
  gctr-twice x =
      ap (gen again 0) (length-gen n 0 once)
      ∙ gen-same again (oct x) n 0 (λ k h. at (0 + k) (subst (λ (m : ℕ). m < n) (sym (zero-add k)) h))
      ∙ gen-all x
    where
      n : ℕ
      n = length x

      once : ℕ → ℕ
      once i = bit_xor (oct x i) (key_stream key icb i)

      again : ℕ → ℕ
      again i = bit_xor (oct (gen once 0 n) i) (key_stream key icb i)

      at : (i : ℕ) → i < n → again i ≡ oct x i
      at i h =
          ap (λ (y : ℕ). bit_xor y (key_stream key icb i)) (get_d-gen n 0 i once h ∙ ap once (zero-add i))
          ∙ xor-twice (oct x i) (key_stream key icb i)

  -- octet k
  pub gctr-octet : (x : List ℕ) (k : ℕ) → k < length x → oct (gctr key icb x) k ≡ bit_xor (oct x k) (key_stream key icb k)
  unfolding gctr
  gctr-octet x k h = get_d-gen (length x) 0 k masked h ∙ ap masked (zero-add k)
    where
      masked : ℕ → ℕ
      masked i = bit_xor (oct x i) (key_stream key icb i)

  -- a first part does not depend on what follows
  pub gctr-take : (x : List ℕ) (n : ℕ) → n ≤ length x → gctr key icb (take n x) ≡ take n (gctr key icb x)
  gctr-take x n h =
      ext_get_or 0 (gctr key icb (take n x)) (take n (gctr key icb x))
      (first ∙ sym (length-take-le n (gctr key icb x) (omega (arith, length-gctr x, h))))
      (λ k b. same k (let q : k < n = omega (arith, first, b) in q))
    where
      first : length (gctr key icb (take n x)) ≡ n
      first = length-gctr (take n x) ∙ length-take-le n x h

      same : (k : ℕ) → k < n → oct (gctr key icb (take n x)) k ≡ oct (take n (gctr key icb x)) k
      same k b =
          gctr-octet (take n x) k (omega (arith, length-take-le n x h, b))
          ∙ ap (λ (v : ℕ). bit_xor v (key_stream key icb k)) (get_or-take n x k 0 b)
          ∙ sym (get_or-take n (gctr key icb x) k 0 b ∙ gctr-octet x k (omega (arith, b, h)))

pub inc-block : (b : List ℕ) → Block b → Block (inc32 b)
unfolding inc32
inc-block b d =
    record {
      size = length-append (take 12 b) (octets_of 4 n)
          ∙ ap₂ (λ (p q : ℕ). p + q) (length-take-le 12 b (omega (arith, d.size))) (length-octets 4 n);
      small = join-octets (take 12 b) (octets_of 4 n) (take-octets 12 b d.small) (octets-octets 4 n);
    }
  where
    n : ℕ
    n = (number 4 (drop 12 b) + 1) % 2 ^ 32

counter-block : (icb : List ℕ) → Block icb → (j : ℕ) → Block (counter_block icb j)
unfolding counter_block
counter-block icb d zero = d
counter-block icb d (suc j) = inc-block (counter_block icb j) (counter-block icb d j)

-- octets with the stream added are octets
pub gctr-octets : (key icb : List ℕ) → Key key → Block icb → (x : List ℕ) → Octets x → Octets (gctr key icb x)
unfolding gctr key_stream
gctr-octets key icb is d x o =
    gen-octets (λ i. bit_xor (oct x i) (oct (cipher key (counter_block icb (i / 16))) (i % 16)))
    (λ i. xor_lt 8 (oct x i) (oct (cipher key (counter_block icb (i / 16))) (i % 16)) (o i)
    ((cipher-block is (counter-block icb d (i / 16))).small (i % 16)))
    (length x) 0
