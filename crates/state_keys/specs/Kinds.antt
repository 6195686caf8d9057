-- "Each kind of key carries its own octet count as a constant of its kind ... An ESP SA needs the first number,
-- a Rekey SA the sum of both", and "wrapping keys ... values of 16, 24 or 32 octets".
-- A key is octets at the front of an array, with blanks (0) behind them.
use Rattle.std.specs.Prelude.{ℕ, ◌+◌, ◌-◌, Bool, cond, ◌&&◌, List, [], ◌++◌, eqb, length, take, drop, replicate, Option, Some, None, unwrap_or}
use Rattle.state_keys.specs.Rooms.{encryption_key_room, sa_room, wrapping_key_room}
use Rattle.state_keys.specs.Algorithms.{is_wrapping_size, is_encryption_size}
use Rattle.state_keys.specs.declared.kinds.WrappingKey.{WrappingKey}
use Rattle.state_keys.specs.declared.kinds.EspKey.{EspKey}
use Rattle.state_keys.specs.declared.kinds.EncryptionKey.{EncryptionKey}
use Rattle.state_keys.specs.declared.kinds.RekeyKey.{RekeyKey}

-- x with blanks behind it, up to n octets
abbrev pub padded : ℕ → List ℕ → List ℕ
padded n x = x ++ replicate (n - length x) 0

-- ---- a wrapping key: the second number of the algorithm table (transform type 13)
abbrev pub wrapping_of : List ℕ → WrappingKey
wrapping_of x = record { octets = padded wrapping_key_room x; count = length x }

-- the octets of a wrapping key
abbrev pub value_of : WrappingKey → List ℕ
value_of k = take k.count k.octets

-- a wrapping key of the octets x, if it can have as many
unfoldable pub wrapping_key : List ℕ → Option WrappingKey
wrapping_key x = cond (is_wrapping_size (length x)) (Some (wrapping_of x)) None

-- the key of an answer; where it has none, a key of no octets
abbrev pub key_or_blank : Option WrappingKey → WrappingKey
key_or_blank k = unwrap_or k (wrapping_of [])

-- ---- the keying octets of an ESP SA: the first number (transform type 1)
abbrev pub esp_of : List ℕ → EspKey
esp_of x = record { octets = padded encryption_key_room x; count = length x }

unfoldable pub esp_key : List ℕ → Option EspKey
esp_key x = cond (is_encryption_size (length x)) (Some (esp_of x)) None

-- ---- the encryption part of a Rekey SA's keying octets
abbrev pub encryption_of : List ℕ → EncryptionKey
encryption_of x = record { octets = padded encryption_key_room x; count = length x }

unfoldable pub encryption_key : List ℕ → Option EncryptionKey
encryption_key x = cond (is_encryption_size (length x)) (Some (encryption_of x)) None

-- the encryption part of an answer; where it has none, one of no octets
abbrev pub encryption_or_blank : Option EncryptionKey → EncryptionKey
encryption_or_blank k = unwrap_or k (encryption_of [])

-- ---- the keying octets of a Rekey SA: a first number and a second one
unfoldable pub rekey_sizes : ℕ → ℕ → Bool
rekey_sizes e w = is_encryption_size e && is_wrapping_size w

abbrev pub rekey_of : List ℕ → ℕ → ℕ → RekeyKey
rekey_of x e w = record { octets = padded sa_room x; encryption = e; wrapping = w }

-- the octets x fit parts of e and w octets if e and w are such numbers and x has e + w octets
unfoldable pub rekey_key : List ℕ → ℕ → ℕ → Option RekeyKey
rekey_key x e w = cond (rekey_sizes e w && eqb (length x) (e + w)) (Some (rekey_of x e w)) None

-- RFC 9838, section 3.4: "GSK_e | GSK_a | GSK_w = KEYMAT", where for an AEAD algorithm "the length of GSK_a is zero"
unfoldable pub encryption_part : RekeyKey → Option EncryptionKey
encryption_part k = cond (rekey_sizes k.encryption k.wrapping) (encryption_key (take k.encryption k.octets)) None

unfoldable pub key_wrap_part : RekeyKey → Option WrappingKey
key_wrap_part k = cond (rekey_sizes k.encryption k.wrapping) (wrapping_key (take k.wrapping (drop k.encryption k.octets))) None
