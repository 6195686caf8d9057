-- Octets unseal to what is deciphered of them, or to nothing: their tag decides.
use mathlib.Core.Path.{◌≡◌, refl, sym, ap, ◌∙◌}
use mathlib.Core.Bool.{false≢true}
use mathlib.Core.Logic.{◌⊎◌, inl, inr}
use mathlib.Core.List.{List, ◌++◌}
use Prim.Native.Nat.{ℕ, ◌-◌, ◌≤◌}
use native.Mathlib.Omega.{arith}
use lib.ListN.{length, take, drop, length-append, length-drop, take-append-drop}
use lib.Seq.{take_at, drop_at}
use Rattle.lists.proofs.Cases.{bool_cases}
use Rattle.octets.specs.Compare.{same}
use Rattle.octets.specs.Octets.{Octets}
use Rattle.octets.proofs.Order.{same-eq, eq-same}
use Rattle.fips197.specs.Key.{Key}
use Rattle.sp800_38d.specs.Encryption.{nonce_octets, tag_octets, tag}
use Rattle.sp800_38d.specs.Decryption.{plaintext, Unseals, Decrypts}
use Rattle.sp800_38d.proofs.DecryptionLaws.{unseals-decrypts, decrypts-unseals}

-- the octets before the tag, deciphered
abbrev pub deciphered_of : List ℕ → List ℕ → List ℕ → List ℕ
deciphered_of key nonce octets = plaintext key nonce (take (length octets - tag_octets) octets)

module _ (key nonce a octets : List ℕ) (least : tag_octets ≤ length octets) where
  abbrev before : ℕ
  before = length octets - tag_octets

  -- C and T are where the octets are cut
  cut : (x : List ℕ) (d : Decrypts key nonce a octets x) → length d.c ≡ before
  cut x d =
      let s : length (d.c ++ d.t) ≡ length octets = ap length d.parts in
      omega (arith, s, length-append d.c d.t, d.tag-size)

  tagged : (x : List ℕ) → Decrypts key nonce a octets x → tag key nonce a (take before octets) ≡ drop before octets
  tagged x d =
      ap (tag key nonce a) (ap (take before) (sym d.parts) ∙ take_at d.c d.t before (cut x d))
      ∙ d.same_tag
      ∙ sym (ap (drop before) (sym d.parts) ∙ drop_at d.c d.t before (cut x d))

  pub unseals-or-none : Key key → length nonce ≡ nonce_octets → Octets nonce → Octets octets
      → Unseals key nonce a octets (deciphered_of key nonce octets) ⊎ ((x : List ℕ) → Unseals key nonce a octets x → ⊥)
  unseals-or-none is size small o =
      bool_cases (same (tag key nonce a (take before octets)) (drop before octets))
      (λ e. inl (decrypts-unseals key nonce a octets (deciphered_of key nonce octets) is size small o
      (record {
        c = take before octets;
        t = drop before octets;
        parts = take-append-drop before octets;
        tag-size = length-drop before octets ∙ omega arith;
        plain = refl;
        same_tag = same-eq (tag key nonce a (take before octets)) (drop before octets) e;
      })))
      (λ e. inr (λ x u.
      false≢true (sym e ∙ eq-same (tag key nonce a (take before octets)) (drop before octets)
      (tagged x (unseals-decrypts key nonce a octets x u)))))
