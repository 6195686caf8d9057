-- What `open` answers and leaves in lent room: GCM-AD's plaintext at the room's start, or FAIL.
use Rattle.std.specs.Prelude.{◌≡◌, Bool, true, false, ℕ, ◌≤◌, List, ◌++◌, T, length, drop}
use Rattle.fips197.specs.Key.{is_key}
use Rattle.sp800_38d.specs.Encryption.{Supported}
use Rattle.sp800_38d.specs.Decryption.{Unseals}

-- the room with x at its start and the rest as lent
abbrev pub put_at_start : List ℕ → List ℕ → List ℕ
put_at_start x room = x ++ drop (length x) room

-- x is the result, and it is to be written: the key has 16, 24 or 32 octets, the lengths are supported, and the room holds x
pub record Unsealing (key nonce a octets room x : List ℕ) : Type 0 where
  pub key-size : T (is_key (length key))
  pub supported : Supported nonce a (length x)
  pub unseals : Unseals key nonce a octets x
  pub holds : length x ≤ length room

-- true: there is such an x, and it was written
pub record Opened (key nonce a octets room after : List ℕ) : Type 0 where
  pub x : List ℕ
  pub opening : Unsealing key nonce a octets room x
  pub room-is : after ≡ put_at_start x room

-- false: there is none, and the room is as lent
pub record Failed (key nonce a octets room after : List ℕ) : Type 0 where
  pub none : (x : List ℕ) → Unsealing key nonce a octets room x → ⊥
  pub room-is : after ≡ room

abbrev pub UnsealAnswers : List ℕ → List ℕ → List ℕ → List ℕ → List ℕ → Bool → List ℕ → Type 0
UnsealAnswers key nonce a octets room true after = Opened key nonce a octets room after
UnsealAnswers key nonce a octets room false after = Failed key nonce a octets room after
