-- The counter blocks by a number, and the stream added block by block.
use mathlib.Core.Path.{◌≡◌, refl, sym, ap, ap₂, ◌∙◌, subst}
use mathlib.Core.Logic.{◌⊎◌, inl, inr}
use mathlib.Core.List.{List, ◌++◌}
use Prim.Native.Nat.{ℕ, zero, suc, ◌+◌, ◌*◌, ◌/◌, ◌%◌, ◌-◌, ◌^◌, ◌<◌, ◌≤◌}
use native.Mathlib.Nat.{add-sub_of_le, not-suc-le-zero}
use native.Mathlib.Omega.{arith}
use lib.ListN.{length, drop, length-append, length-drop, take-append-drop, get_or-append, length-set, set}
use lib.Seq.{take_at, drop_at, take_all, get_or-append-add, get_or-drop, get_or-set_same, get_or-set_other, ext_get_or}
use lib.Bits.{bit_xor}
use Rattle.lists.proofs.Cases.{lt-cases}
use Rattle.octets.specs.Numbers.{oct, number, octets_of}
use Rattle.octets.specs.Octets.{Octets}
use Rattle.octets.proofs.Numerals.{number_append}
use Rattle.octets.proofs.Octets.{join-octets}
use Rattle.octets.proofs.RoundTrip.{length-octets, octets-octets, number-octets, octets-number, number-eight}
use Rattle.fips197.specs.Cipher.{cipher}
use Rattle.aes.specs.inner.Schedule.{Expands}
use Rattle.sp800_38d.specs.Increment.{inc32}
use Rattle.sp800_38d.specs.Gctr.{counter_block, key_stream}
use Rattle.sp800_38d.specs.Encryption.{pre_counter_block, ciphertext}
use Rattle.sp800_38d.specs.Decryption.{plaintext}
use Rattle.sp800_38d.proofs.GctrLaws.{gctr-octet}
use Rattle.sp800_38d.proofs.SealLaws.{length-text}
use Rattle.gcm.specs.Opening.{put_at_start}
use Rattle.gcm.specs.inner.Puts.{masked, PutsOctets}

-- octet k of a text, with the stream added
abbrev pub streamed : List ℕ → List ℕ → List ℕ → ℕ → ℕ
streamed nonce key c k = bit_xor (oct c k) (key_stream key (inc32 (pre_counter_block nonce)) k)

module _ (nonce : List ℕ) (size : length nonce ≡ 12) where
  -- a counter block by its number
  abbrev at_count : ℕ → List ℕ
  at_count n = nonce ++ octets_of 4 n

  pub first-is : pre_counter_block nonce ≡ nonce ++ octets_of 4 1
  unfolding pre_counter_block octets_of
  first-is = refl

  inc_is : (n : ℕ) → n + 1 < 2 ^ 32 → inc32 (nonce ++ octets_of 4 n) ≡ nonce ++ octets_of 4 (n + 1)
  unfolding inc32
  inc_is n h =
      ap₂ (λ (p : List ℕ) (k : ℕ). p ++ octets_of 4 ((k + 1) % 2 ^ 32)) (take_at nonce (octets_of 4 n) 12 size)
      (ap (number 4) (drop_at nonce (octets_of 4 n) 12 size) ∙ number-octets 4 n (let q : n < 2 ^ 32 = omega arith in q))
      ∙ ap (λ (k : ℕ). nonce ++ octets_of 4 k) (let q : (n + 1) % 2 ^ 32 ≡ n + 1 = omega arith in q)

  start_is : inc32 (pre_counter_block nonce) ≡ nonce ++ octets_of 4 2
  start_is = ap inc32 first-is ∙ inc_is 1 (omega arith)

  counter-is : (j : ℕ) → j + 2 < 2 ^ 32 → counter_block (inc32 (pre_counter_block nonce)) j ≡ nonce ++ octets_of 4 (j + 2)
  unfolding counter_block
  counter-is zero h = start_is
  counter-is (suc j) h =
      ap inc32 (counter-is j (omega arith)) ∙ inc_is (j + 2) (omega arith)
      ∙ ap (λ (k : ℕ). nonce ++ octets_of 4 k) (let q : j + 2 + 1 ≡ suc j + 2 = omega arith in q)

  length-block : (n : ℕ) → length (nonce ++ octets_of 4 n) ≡ 16
  length-block n = length-append nonce (octets_of 4 n) ∙ ap₂ (λ (p q : ℕ). p + q) size (length-octets 4 n)

  -- a counter block from two numbers of 64 bits
  pub block_made : (n : ℕ) → n < 2 ^ 32 → Octets nonce → {a b x : ℕ} {r : List ℕ} → a ≡ number 8 (drop 0 nonce) → b ≡ number 4
      (drop 8 nonce)
      → x ≡ b * 4294967296 + n → r ≡ octets_of 8 a ++ octets_of 8 x → r ≡ nonce ++ octets_of 4 n
  block_made n h o {a} {b} {x} {r} ea eb ex er =
      er
      ∙ ap₂ (λ (p q : List ℕ). p ++ q) (ap (octets_of 8) first ∙ octets-number 8 t small (omega (arith, length-block n)))
      (ap (octets_of 8) second ∙ octets-number 8 (drop 8 t) tail-small (omega (arith, tail-size))
      ∙ take_all 8 (drop 8 t) (omega (arith, tail-size)))
      ∙ take-append-drop 8 t
    where
      t : List ℕ
      t = nonce ++ octets_of 4 n

      small : Octets t
      small = join-octets nonce (octets_of 4 n) o (octets-octets 4 n)

      tail-small : Octets (drop 8 t)
      tail-small i = subst (λ (y : ℕ). y < 256) (sym (get_or-drop 8 t i 0)) (small (8 + i))

      tail-size : length (drop 8 t) ≡ 8
      tail-size = length-drop 8 t ∙ omega (arith, length-block n)

      first : a ≡ number 8 t
      first = ea ∙ sym (number_append 8 0 nonce (octets_of 4 n) (omega arith))

      second : x ≡ number 8 (drop 8 t)
      second =
          ex
          ∙ number-eight t 8 {a = b} {b = n} (eb ∙ sym (number_append 4 8 nonce (octets_of 4 n) (omega arith)))
          (sym (ap (number 4) (drop_at nonce (octets_of 4 n) 12 size) ∙ number-octets 4 n h))

  pub in_block : (key m : List ℕ) (n k : ℕ) → n < 2 ^ 32 → k / 16 + 2 ≡ n → m ≡ cipher key (nonce ++ octets_of 4 n)
      → (i : ℕ) → i ≡ k % 16 → oct m i ≡ key_stream key (inc32 (pre_counter_block nonce)) k
  unfolding key_stream
  in_block key m n k h e em i ei =
      ap₂ (λ (l : List ℕ) (j : ℕ). oct l j) (em ∙ ap (cipher key) (sym (counter-is (k / 16) (omega arith) ∙ ap at_count e))) ei

  module _ (key c : List ℕ) where
    pub text_at : (k : ℕ) → k < length c → oct (plaintext key nonce c) k ≡ streamed nonce key c k
    unfolding ciphertext
    text_at k h = gctr-octet key (inc32 (pre_counter_block nonce)) c k h

    -- one block more
    pub more-put : (room : List ℕ) {now after m : List ℕ} {n at end : ℕ} → n < 2 ^ 32 → 16 * n ≡ at + 32 → at ≤ end → end ≤ at + 16
        → m ≡ cipher key (nonce ++ octets_of 4 n) → PutsOctets (streamed nonce key c) 0 at room now →
        PutsOctets (masked m c at) at end now after
        → PutsOctets (streamed nonce key c) 0 end room after
    unfolding masked
    more-put room {now} {after} {m} {n} {at} {end} small count l u em p q =
        record {
          size = q.size ∙ p.size;
          inside = λ k z h. within k h (lt-cases k at inl inr);
          outside = λ k h. beyond k h;
        }
      where
        within : (k : ℕ) → k < end → (k < at) ⊎ (at ≤ k) → oct after k ≡ streamed nonce key c k
        within k h (inl b) = q.outside k (inl b) ∙ p.inside k (omega arith) b
        within k h (inr b) =
            q.inside k b h
            ∙ ap (bit_xor (oct c k)) (in_block key m n k small (omega arith) em (k - at) (omega arith))

        beyond : (k : ℕ) → (k < 0) ⊎ (end ≤ k) → oct after k ≡ oct room k
        beyond k (inl b) = absurd (not-suc-le-zero b)
        beyond k (inr b) = q.outside k (inr b) ∙ p.outside k (inr (omega arith))

    pub none-put : (room : List ℕ) → PutsOctets (streamed nonce key c) 0 0 room room
    none-put room = record { size = refl; inside = λ k z h. absurd (not-suc-le-zero h); outside = λ k h. refl }

    pub all-put : (room : List ℕ) {after : List ℕ} {at : ℕ} → length c ≤ length room → length c ≡ at → PutsOctets
        (streamed nonce key c) 0 at room after
        → after ≡ put_at_start (plaintext key nonce c) room
    all-put room {after} {at} h e p =
        ext_get_or 0 after (plaintext key nonce c ++ drop (length (plaintext key nonce c)) room)
        (p.size ∙ sym whole) (λ k b. same k (lt-cases k (length c) inl inr))
      where
        x : List ℕ
        x = plaintext key nonce c

        whole : length (x ++ drop (length x) room) ≡ length room
        whole = length-append x (drop (length x) room) ∙ omega (arith, length-drop (length x) room, length-text key nonce c)

        same : (k : ℕ) → (k < length c) ⊎ (length c ≤ k) → oct after k ≡ oct (x ++ drop (length x) room) k
        same k (inl b) =
            p.inside k (omega arith) (omega arith) ∙ sym (text_at k b)
            ∙ sym (get_or-append x (drop (length x) room) 0 k (omega (arith, length-text key nonce c)))
        same k (inr b) =
            p.outside k (inr (omega arith))
            ∙ ap (oct room) (sym (add-sub_of_le (let q : length x ≤ k = omega (arith, length-text key nonce c) in q)))
            ∙ sym (get_or-drop (length x) room (k - length x) 0)
            ∙ sym (get_or-append-add x (drop (length x) room) (k - length x) 0)
            ∙ ap (oct (x ++ drop (length x) room)) (add-sub_of_le (let q : length x ≤ k = omega (arith, length-text key nonce c) in q))

-- a text deciphered up to `at`, before counter block n
pub record Streaming (schedule nonce c room now : List ℕ) (at n : ℕ) : Type 0 where
  pub inside : at ≤ length c
  pub count : 16 * n ≡ at + 32
  pub size : length now ≡ length room
  pub puts : (key : List ℕ) → Expands key schedule → PutsOctets (streamed nonce key c) 0 at room now

-- the loop over one block
module _ (f : ℕ → ℕ) (from : ℕ) (room : List ℕ) where
  pub nothing_put : PutsOctets f from from room room
  nothing_put = record { size = refl; inside = λ k l h. absurd (omega arith); outside = λ k h. refl }

  pub one-put : {now : List ℕ} {i v : ℕ} → from ≤ i → i < length room → v ≡ f i → PutsOctets f from i room now →
      PutsOctets f from (i + 1) room
      (set now i v)
  one-put {now} {i} {v} a b e p =
      record {
        size = length-set now i v ∙ p.size;
        inside = λ k l h. within k l h (lt-cases k i inl inr);
        outside = λ k h. get_or-set_other now i k v 0 (other k h) ∙ p.outside k (wider k h);
      }
    where
      here : i < length now
      here = subst (λ (n : ℕ). i < n) (sym p.size) b

      within : (k : ℕ) → from ≤ k → k < i + 1 → (k < i) ⊎ (i ≤ k) → oct (set now i v) k ≡ f k
      within k l h (inl q) = get_or-set_other now i k v 0 (λ (z : k ≡ i). omega (arith, z, q)) ∙ p.inside k l q
      within k l h (inr q) =
          let z : k ≡ i = omega arith in
          ap (oct (set now i v)) z ∙ get_or-set_same now i v 0 here ∙ e ∙ ap f (sym z)

      other : (k : ℕ) → (k < from) ⊎ (i + 1 ≤ k) → k ≡ i → ⊥
      other k (inl h) z = omega (arith, z, h)
      other k (inr h) z = omega (arith, z, h)

      wider : (k : ℕ) → (k < from) ⊎ (i + 1 ≤ k) → (k < from) ⊎ (i ≤ k)
      wider k (inl h) = inl h
      wider k (inr h) = inr (omega arith)
