-- GCM-AD by its steps gives exactly what the octets unseal to: opening exactly inverts sealing.
use mathlib.Core.Path.{◌≡◌, refl, sym, ap, ◌∙◌, subst}
use mathlib.Core.List.{List, ◌++◌}
use Prim.Native.Nat.{ℕ}
use lib.ListN.{length, take}
use lib.Seq.{take-append_seam}
use Rattle.octets.specs.Octets.{Octets}
use Rattle.octets.proofs.Octets.{take-octets}
use Rattle.fips197.specs.Key.{Key}
use Rattle.sp800_38d.specs.Encryption.{nonce_octets, ciphertext, tag, sealed}
use Rattle.sp800_38d.specs.Decryption.{Unseals, Decrypts}
use Rattle.sp800_38d.proofs.SealLaws.{length-tag, text-twice, text-octets}

module _ (key nonce a : List ℕ) where
  -- what was sealed is given back
  pub sealed-decrypts : (p : List ℕ) → Decrypts key nonce a (sealed key nonce a p) p
  unfolding sealed
  sealed-decrypts p =
      record {
        c = ciphertext key nonce p;
        t = tag key nonce a (ciphertext key nonce p);
        parts = refl;
        tag-size = length-tag key nonce a (ciphertext key nonce p);
        plain = text-twice key nonce p;
        same_tag = refl;
      }

  module _ (octets p : List ℕ) where
    pub unseals-decrypts : Unseals key nonce a octets p → Decrypts key nonce a octets p
    unseals-decrypts u = subst (λ (s : List ℕ). Decrypts key nonce a s p) u.seals (sealed-decrypts p)

    -- what the steps give seals to the octets again
    pub decrypts-seals : Decrypts key nonce a octets p → sealed key nonce a p ≡ octets
    unfolding sealed
    decrypts-seals d =
        ap (λ (c : List ℕ). c ++ tag key nonce a c) (ap (ciphertext key nonce) (sym d.plain) ∙ text-twice key nonce d.c)
        ∙ ap (λ (t : List ℕ). d.c ++ t) d.same_tag
        ∙ d.parts

    pub decrypts-unseals : Key key → length nonce ≡ nonce_octets → Octets nonce → Octets octets → Decrypts key nonce a octets p
        → Unseals key nonce a octets p
    decrypts-unseals is size small o d =
        record {
          small = subst Octets d.plain (text-octets key nonce is size small d.c c-octets);
          seals = decrypts-seals d;
        }
      where
        c-octets : Octets d.c
        c-octets =
            subst Octets (ap (take (length d.c)) (sym d.parts) ∙ take-append_seam d.c d.t)
            (take-octets (length d.c) octets o)
