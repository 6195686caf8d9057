-- Where key and nonce come from, and what is authenticated. `part` is the encryption part of the live Rekey SA's keying octets, GSK_e; `s`
-- is a sealed frame with one Encrypted payload, or one Encrypted Fragment payload.
use Rattle.std.specs.Prelude.{ℕ, ◌+◌, ◌-◌, ◌≤◌, List, ◌++◌, T, length, take, drop}
use Rattle.octets.specs.Octets.{Octets}
use Rattle.fips197.specs.Key.{is_key}
use Rattle.rfc5282.specs.Sizes.{salt_octets, iv_octets}

-- RFC 5282, section 7.1: the AES key, then the salt
abbrev pub aes_key_of : List ℕ → List ℕ
aes_key_of part = take (length part - salt_octets) part

abbrev pub salt_of : List ℕ → List ℕ
salt_of part = drop (length part - salt_octets) part

-- an encryption part that is octets, 20, 28 or 36 of them: an AES key and the salt
pub record FitPart (part : List ℕ) : Type 0 where
  pub small : Octets part
  pub least : salt_octets ≤ length part
  pub key-size : T (is_key (length part - salt_octets))

-- section 3: the body is the IV, then the ciphertext with its tag behind it. Where the body begins, `at`, depends on the payload
abbrev pub iv_in : ℕ → List ℕ → List ℕ
iv_in at s = take iv_octets (drop at s)

abbrev pub sealed_in : ℕ → List ℕ → List ℕ
sealed_in at s = drop (at + iv_octets) s

-- section 4: the nonce is the salt, then the IV
abbrev pub nonce_for : ℕ → List ℕ → List ℕ → List ℕ
nonce_for at part s = salt_of part ++ iv_in at s

-- section 5.1: the additional data are the octets from the first of the IKE header to the last of the Encrypted payload's own header, as
-- they were received. RFC 7383, section 2.5: of a fragment, to the last of Total Fragments. Both end where the body begins
abbrev pub additional_in : ℕ → List ℕ → List ℕ
additional_in at s = take at s
