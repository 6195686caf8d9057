-- What `open` answers, from what its bit_sum promise.
use mathlib.Core.Path.{◌≡◌, sym, ap, ◌∙◌, subst}
use mathlib.Core.Bool.{Bool, true, false}
use mathlib.Core.List.{List}
use Prim.Native.Nat.{ℕ, ◌+◌, ◌-◌, ◌≤◌}
use native.Mathlib.Omega.{arith}
use lib.Dec.{T}
use lib.ListN.{length, take, drop}
use lib.Seq.{length-take-le}
use Rattle.fips197.specs.Key.{is_key}
use Rattle.sp800_38d.specs.Encryption.{nonce_octets, tag_octets, most_text, most_data}
use Rattle.sp800_38d.specs.Decryption.{plaintext}
use Rattle.sp800_38d.proofs.SealLaws.{length-text, length-sealed}
use Rattle.gcm.specs.Opening.{put_at_start, Unsealing, Opened}
use Rattle.gcm.specs.inner.Judged.{plain_in, UnsealJudged}
use Rattle.gcm.proofs.TagLaws.{from_start}

-- a test's answer, and what it is the test of
pub is-so : {b t : Bool} → b ≡ t → b ≡ true → T t
is-so e h = subst T (sym h ∙ e) tt

pub is-not-so : {b t : Bool} → b ≡ t → b ≡ false → T t → ⊥
is-not-so e h u = subst T (sym e ∙ h) u

-- the part `&s[0..n]`
pub part-size : (s : List ℕ) (n : ℕ) → n ≤ length s → length (take (n - 0) (drop 0 s)) ≡ n
part-size s n h = ap length (from_start s n) ∙ length-take-le n s h

module _ (key nonce a octets room : List ℕ) where
  pub opening-size : (x : List ℕ) → Unsealing key nonce a octets room x → length octets ≡ length x + 16
  opening-size x h = ap length (sym h.unseals.seals) ∙ length-sealed key nonce a x

  module _ (b : Bool) (j : UnsealJudged key nonce a octets b) where
    pub open_none : b ≡ false → (x : List ℕ) → Unsealing key nonce a octets room x → ⊥
    open_none e x h =
        let k : UnsealJudged key nonce a octets false = subst (UnsealJudged key nonce a octets) e j in
        k x h.unseals

    pub open-some : b ≡ true → T (is_key (length key)) → length nonce ≡ nonce_octets → length a ≤ most_data
        → length octets - tag_octets ≤ most_text → length octets - tag_octets ≤ length room
        → {after : List ℕ} → after ≡ put_at_start (plaintext key nonce (take (length octets - tag_octets - 0) (drop 0 octets))) room
        → Opened key nonce a octets room after
    open-some e k s da te holds er =
        record {
          x = plain_in key nonce octets;
          opening = record {
            key-size = k;
            supported = record { nonce-size = s; data-most = da; text-most = omega (arith, size, te) };
            unseals = subst (UnsealJudged key nonce a octets) e j;
            holds = omega (arith, size, holds);
          };
          room-is = er ∙ ap (λ (c : List ℕ). put_at_start (plaintext key nonce c) room) (from_start octets (length octets - tag_octets));
        }
      where
        size : length (plain_in key nonce octets) ≡ length octets - 16
        size = length-text key nonce (take (length octets - 16) octets) ∙ length-take-le (length octets - 16) octets (omega arith)
