-- What is opened by its steps. Inner: what a reader believes is `OpensFrame` and `OpensFragment`.
use Rattle.std.specs.Prelude.{◌≡◌, ℕ, ◌+◌, List, ◌++◌, length, take}
use Rattle.octets.specs.Numbers.{oct}
use Rattle.ikev2_numbers.specs.Codes.{header_octets}
use Rattle.sp800_38d.specs.Decryption.{plaintext}
use Rattle.rfc5282.specs.Sizes.{encrypted_body_at}
use Rattle.rfc5282.specs.Keys.{aes_key_of, sealed_in, nonce_for}
use Rattle.rfc5282.specs.SealedFrame.{header_with}
use Rattle.rfc5282.specs.Number10.{PlainIn}

-- the first `p` of the sealed octets, deciphered
abbrev pub opened_payloads : ℕ → List ℕ → List ℕ → ℕ → List ℕ
opened_payloads at part s p = plaintext (aes_key_of part) (nonce_for at part s) (take p (sealed_in at s))

-- the header with next payload and length set anew, and `p` octets of payloads
unfoldable pub opened_of : List ℕ → List ℕ → ℕ → List ℕ
opened_of part s p = header_with (oct s header_octets) (header_octets + p) s ++ opened_payloads encrypted_body_at part s p

-- `p` octets of payloads stand in the body at `at`: its plain octets are they, the padding, and the pad length that counts it
pub record BodyHolds (at : ℕ) (part s : List ℕ) (p : ℕ) : Type 0 where
  pub plain : List ℕ
  pub is_plain : PlainIn at part s plain
  pub padding : ℕ
  pub size : length plain ≡ p + padding + 1
  pub last : oct plain (p + padding) ≡ padding
