-- NIST SP 800-38D, section 7.2: GCM-AD_K, authenticated decryption, algorithm 5, of octets that are C || T.
use Rattle.std.specs.Prelude.{◌≡◌, ℕ, List, ◌++◌, length}
use Rattle.octets.specs.Octets.{Octets}
use Rattle.sp800_38d.specs.Encryption.{tag_octets, ciphertext, tag, sealed}

-- without its steps: octets unseal to x exactly when sealing x yields them
pub record Unseals (key nonce a octets x : List ℕ) : Type 0 where
  pub small : Octets x
  pub seals : sealed key nonce a x ≡ octets

-- step 4: P = GCTR_K(inc_32(J_0), C), the same map as that from P to C
abbrev pub plaintext : List ℕ → List ℕ → List ℕ → List ℕ
plaintext key nonce c = ciphertext key nonce c

-- by its steps: T has 16 octets (1), P is made of C (4), and T', the tag of A and C (5 to 7), is T (8). Laws say that this is `Unseals`.
pub record Decrypts (key nonce a octets p : List ℕ) : Type 0 where
  pub c : List ℕ
  pub t : List ℕ
  pub parts : c ++ t ≡ octets
  pub tag-size : length t ≡ tag_octets
  pub plain : plaintext key nonce c ≡ p
  pub same_tag : tag key nonce a c ≡ t
