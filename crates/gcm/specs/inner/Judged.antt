-- What the test of a tag tells. Inner.
use Rattle.std.specs.Prelude.{Bool, true, false, List, ℕ, ◌-◌, length, take}
use Rattle.sp800_38d.specs.Encryption.{tag_octets}
use Rattle.sp800_38d.specs.Decryption.{plaintext, Unseals}

-- the octets before the tag, deciphered
abbrev pub plain_in : List ℕ → List ℕ → List ℕ → List ℕ
plain_in key nonce octets = plaintext key nonce (take (length octets - tag_octets) octets)

-- they unseal to these, or to none
abbrev pub UnsealJudged : List ℕ → List ℕ → List ℕ → List ℕ → Bool → Type 0
UnsealJudged key nonce a octets true = Unseals key nonce a octets (plain_in key nonce octets)
UnsealJudged key nonce a octets false = (x : List ℕ) → Unseals key nonce a octets x → ⊥
